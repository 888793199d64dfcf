-- Lists of calls on a counting device, and what is true after any of them. Assumes nothing.
use Rattle.std.specs.Prelude.{◌≡◌, ℕ, Bool, false, cond, ◌&&◌, List, [], ◌∷◌, is_some, Some, None, Ok, Err, Option, Result, ◌==◌}
use Rattle.device.specs.declared.faults.DeviceFault.{DeviceFault}
use Rattle.device.specs.Meaning.{Descriptor}
use Rattle.device.specs.Meaning.{State}
use Rattle.device.specs.Writes.{last_to, holding}
use Rattle.device.specs.Calls.{LayoutMade, LayoutGone, PoolMade, PoolGone, SetMade, SetFreed, Updated, lives_in, Empty}
use Rattle.device.specs.Requests.{Request, create_layout, destroy_layout, create_pool, destroy_pool, allocate_set, free_set, update_sets}
use Rattle.counting.specs.declared.counting.CountingDevice.{CountingDevice}
use Rattle.counting.specs.Counting.{meaning_of, Counted}
use Rattle.counting.specs.Reading.{read_back}

-- the handle in an answer
abbrev pub given : Result ℕ DeviceFault → Option ℕ
given (Ok h) = Some h
given (Err e) = None

-- a call, by what its contract says of holdings, and the handle that it gave, if one
abbrev pub Held : State → Request → Option ℕ → State → Type 0
Held m (create_layout bs flags) gave n = (r : Result ℕ DeviceFault) × LayoutMade m bs flags r n × (gave ≡ given r)
Held m (destroy_layout l) gave n = LayoutGone m l n × (gave ≡ None)
Held m (create_pool most sizes flags) gave n = (r : Result ℕ DeviceFault) × PoolMade m most sizes flags r n × (gave ≡ given r)
Held m (destroy_pool p) gave n = PoolGone m p n × (gave ≡ None)
Held m (allocate_set p l) gave n = (r : Result ℕ DeviceFault) × SetMade m p l r n × (gave ≡ given r)
Held m (free_set p s) gave n = (r : Bool) × SetFreed m p s r n × (gave ≡ None)
Held m (update_sets ws l) gave n = Updated m ws l n × (gave ≡ None)

-- One call that was made: what was held before, the request, and the handle that was given, if one.
pub record Event : Type 0 where
  pub before : State
  pub request : Request
  pub gave : Option ℕ

-- a list of calls, the newest first, leads from an empty device to this one
abbrev pub Reaches : List Event → CountingDevice → Type 0
Reaches [] e = Empty (meaning_of e)
Reaches (c ∷ older) e = (d : CountingDevice) × Reaches older d × (c.before ≡ meaning_of d) × Held c.before c.request c.gave (meaning_of e) × Counted d c.request e

-- whether a handle was given by one of the calls
abbrev pub is_given : ℕ → Option ℕ → Bool
is_given h None = false
is_given h (Some k) = h == k

-- none of the calls gave that handle
abbrev pub Never : Option ℕ → List Event → Type 0
Never None calls = Unit {0}
Never (Some h) [] = Unit {0}
Never (Some h) (c ∷ calls) = (is_given h c.gave ≡ false) × Never (Some h) calls

-- no call gave a handle that an older one had given
abbrev pub Once : List Event → Type 0
Once [] = Unit {0}
Once (c ∷ older) = Never c.gave older × Once older

-- what an element held after a call, if it held that before: what the last valid write of the call to it says; nothing, if the set was made or gone; else the same
abbrev pub then_held : ℕ → ℕ → ℕ → State → Option ℕ → Option Descriptor → Request → Option Descriptor
then_held h b j m gave old (create_layout bs flags) = old
then_held h b j m gave old (destroy_layout l) = old
then_held h b j m gave old (create_pool most sizes flags) = old
then_held h b j m gave old (destroy_pool p) = cond (is_some (m.pools p) && lives_in p (m.sets h)) None old
then_held h b j m gave old (allocate_set p l) = cond (is_given h gave) None old
then_held h b j m gave old (free_set p s) = cond (h == s && lives_in p (m.sets s)) None old
then_held h b j m gave old (update_sets ws l) = holding l j old (last_to l m.sets h b j ws)

-- what was last validly written to an element, since its set was made
abbrev pub last_written : List Event → ℕ → ℕ → ℕ → Option Descriptor
last_written [] h b j = None
last_written (c ∷ older) h b j = then_held h b j c.before c.gave (last_written older h b j) c.request

-- over any list of calls, a handle once given is never given again
abbrev pub HandlesOnce : Type 0
HandlesOnce = (calls : List Event) (d : CountingDevice) → Reaches calls d → Once calls

-- and a set reads back what was last validly written to each element
abbrev pub ReadsBack : Type 0
ReadsBack = (calls : List Event) (d : CountingDevice) → Reaches calls d → (h b j : ℕ) → read_back (meaning_of d) h b j ≡ last_written calls h b j
