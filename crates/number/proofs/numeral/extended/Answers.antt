-- `number::numeral::extended` meets its contract, phase by phase. Assumes nothing.
use mathlib.Core.Logic.{inl, inr}
use mathlib.Core.Path.{refl}
use Rattle.definitions.specs.Number.{extend, shifted}
use Rattle.number.proofs.Caps.{shifted_cap, scaled_cap}
use Rattle.number.proofs.numeral.extended.Goals as goal

pub shifted_on-requires : goal.shifted_on-requires
shifted_on-requires c = rw c.in-InInt.is at c.requires

pub shifted_on-requires-in-InFrac : goal.shifted_on-requires-in-InFrac
shifted_on-requires-in-InFrac c = rw c.in-InFrac.is at c.requires

pub returns-in-Begin : goal.returns-in-Begin
unfolding extend
returns-in-Begin c n s =
    elim c.in-Begin.is [
      | inl e ↦ rw e s
      | inr (inl e) ↦ rw e s
      | inr (inr (inl e)) ↦ rw e s
      | inr (inr (inr (inl e))) ↦ rw e s
      | inr (inr (inr (inr e))) ↦ rw e s
    ]

pub returns-in-AfterMinus : goal.returns-in-AfterMinus
unfolding extend
returns-in-AfterMinus c n s = rw c.in-AfterMinus.is (record { negative = refl; coefficient = s.coefficient; scale = s.scale; exponent = s.exponent })

pub returns-in-InInt : goal.returns-in-InInt
unfolding extend shifted
returns-in-InInt c n s =
    rw c.in-InInt.is
    (record {
      negative = s.negative;
      coefficient = shifted_cap _ _ _ _ s.coefficient c.shifted_on.ensures;
      scale = s.scale;
      exponent = s.exponent;
    })

pub returns-in-InFrac : goal.returns-in-InFrac
unfolding extend shifted
returns-in-InFrac c n s =
    rw c.in-InFrac.is
    (record {
      negative = s.negative;
      coefficient = shifted_cap _ _ _ _ s.coefficient c.shifted_on-in-InFrac.ensures;
      scale = scaled_cap _ _ _ s.scale c.scaled_on.ensures;
      exponent = s.exponent;
    })

pub returns-in-AfterE : goal.returns-in-AfterE
unfolding extend
returns-in-AfterE c n s = rw c.in-AfterE.is (record { negative = s.negative; coefficient = s.coefficient; scale = s.scale; exponent = refl })
