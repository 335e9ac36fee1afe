-- The trials of a showing: what they change, and how many are made. Their laws are stated here; proofs/Trials proves them.
use Rattle.std.specs.Prelude.{◌≡◌, List, [], ◌∷◌, true, cond, ℕ, suc, ◌<◌, length}
use Rattle.std.proofs.Math.Option.{some}
use Rattle.std.proofs.Math.ListN.{get_elem?}
use Rattle.language.specs.Form.{Built, Loop, Showing, shown, not_shown, beyond_range, plainly, trial, showing}

-- ---- how many are made

-- of the trials for these loops: as many as there are up to the first that shows e, or all of them
unfoldable pub trials_for : (m : ℕ) → (ls tried : List Loop) → Built → ℕ
trials_for m ls [] e = 0
trials_for m ls (l ∷ tried) e = suc (cond (trial m ls l e) 0 (trials_for m ls tried e))

-- only what is not shown is tried
unfoldable pub if_not_shown : Showing → (made : ℕ) → ℕ
if_not_shown shown made = 0
if_not_shown not_shown made = made
if_not_shown beyond_range made = 0

-- of the trials of a showing
unfoldable pub trials_made : (m : ℕ) → List Loop → Built → ℕ
trials_made m ls e =
    let made = trials_for m ls ls e in
    if_not_shown (plainly m ls e) made

-- the trial for the loop at j, counted from the innermost
abbrev pub TrialAt : (m : ℕ) → List Loop → Built → ℕ → Type 0
TrialAt m ls e j = (l : Loop) × (get_elem? ls j ≡ some l) × (trial m ls l e ≡ true)

-- of what the plain rule does not show and the check does, the last trial made is the first that shows it
abbrev pub FirstLaw : Type 0
FirstLaw =
    (m : ℕ) (ls : List Loop) (e : Built) → plainly m ls e ≡ not_shown → showing m ls e ≡ shown
    → (j : ℕ) × (trials_made m ls e ≡ suc j) × TrialAt m ls e j × ((i : ℕ) → i < j → TrialAt m ls e i → ⊥)

-- and where it is not shown either, all are made and none shows it
abbrev pub NoneLaw : Type 0
NoneLaw = (m : ℕ) (ls : List Loop) (e : Built) → showing m ls e ≡ not_shown → (trials_made m ls e ≡ length ls) × ((j : ℕ) → TrialAt m ls e j → ⊥)

-- ---- what they change

-- the plain rule's answer, and that with the trials: the same, but what is not shown may be shown
pub data Widens : (plain wide : Showing) → Type 0 where
  same : {x : Showing} → Widens x x
  now_shown : Widens not_shown shown

abbrev pub WidensLaw : Type 0
WidensLaw = (m : ℕ) (ls : List Loop) (e : Built) → Widens (plainly m ls e) (showing m ls e)

-- without loops there is nothing to try
abbrev pub NoLoopsLaw : Type 0
NoLoopsLaw = (m : ℕ) (e : Built) → showing m [] e ≡ plainly m [] e
