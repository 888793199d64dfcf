use Rattle.std.proofs.Common.{◌∙◌, sym}
use Rattle.std.proofs.lemmas.Iterator.Adapters.{option_map_id}
use Rattle.std.proofs.lemmas.Iterator.Consumers.{nth_from_yields_List, YieldsList-from_first}
use Rattle.script.specs.Words.{words, words_left}
use Rattle.script.proofs.Scans.{is_word}
use Rattle.script.proofs.words.word_at.Goals as goal

pub returns-clause-place : goal.returns-clause-place
returns-clause-place c =
    sym (option_map_id c.nth.result) ∙ nth_from_yields_List c.nth.result c.nth.new.self c.args.index c.nth.ensures.ran (YieldsList-from_first (λ x. x) words_left (words c.args.text.now) c.of.ensures)

pub returns-clause-word : goal.returns-clause-word
returns-clause-word c = is_word c.args.text.now c.args.index c.nth.result (returns-clause-place c)
