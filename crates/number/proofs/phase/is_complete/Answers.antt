-- `number::phase::is_complete` meets its contract, phase by phase. Assumes nothing.
use mathlib.Core.Path.{◌≡◌, refl}
use mathlib.Core.Bool.{false}
use mathlib.Core.Logic.{inl, inr}
use Rattle.definitions.specs.Number.{complete}
use Rattle.number.specs.NumberCode.{phase_of}
use Rattle.number.specs.declared.phase.NumberPhase.{NumberPhase}
use Rattle.number.specs.declared.phase.NumberPhase.TheVariants.{Begin, AfterMinus, AfterZero, InInt, AfterPoint, InFrac, AfterE, AfterSign, InExp}
use Rattle.number.proofs.phase.is_complete.Goals as goal

pub returns-in-AfterZero : goal.returns-in-AfterZero
unfolding complete
returns-in-AfterZero c =
    elim c.in-AfterZero.is [ inl e ↦ rw e | inr (inl e) ↦ rw e | inr (inr (inl e)) ↦ rw e | inr (inr (inr e)) ↦ rw e ]

other
    : (p : NumberPhase) → (p ≡ AfterZero → ⊥) → (p ≡ InInt → ⊥) → (p ≡ InFrac → ⊥) → (p ≡ InExp → ⊥)
    → false ≡ complete (phase_of p)
unfolding complete
other Begin z i f e = refl
other AfterMinus z i f e = refl
other AfterZero z i f e = absurd (z refl)
other InInt z i f e = absurd (i refl)
other AfterPoint z i f e = refl
other InFrac z i f e = absurd (f refl)
other AfterE z i f e = refl
other AfterSign z i f e = refl
other InExp z i f e = absurd (e refl)

pub returns-in_default : goal.returns-in_default
returns-in_default c = let h = c.in_default in other c.args.phase h.not-AfterZero h.not-InInt h.not-InFrac h.not-InExp
