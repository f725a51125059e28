-- `number::write::write_unsigned` meets its contract, on both ways. Assumes nothing.
use Prim.Native.Nat.{ℕ, ◌/◌, ◌^◌}
use native.Mathlib.Nat.{div-le_self}
use native.Mathlib.Omega.{arith}
use mathlib.Core.List.{[]}
use mathlib.Core.Path.{ap, ap₂, ◌∙◌}
use Rattle.definitions.specs.Bytes.{Bytes}
use Rattle.definitions.specs.Plain.{last_digits}
use Rattle.number.specs.NumberWrite.{written}
use Rattle.number.proofs.write.write_unsigned.Goals as goal

pub write_digits-requires : goal.write_digits-requires
write_digits-requires c =
    let a = c.args in (
      omega (
        arith,
        c.write_fraction-whole.ensures.rest,
        div-le_self a.coefficient (10 ^ a.scale),
        rw c.power.ensures at c.if-coefficient-power.true,
      ),
      omega (arith, c.requires.room, c.write_fraction-whole.auto.out),
    )

pub returns-then-coefficient-power : goal.returns-then-coefficient-power
returns-then-coefficient-power c =
    let a = c.args in
    c.write_digits.ensures.kept
    ∙ ap₂ (λ (y : Bytes) (n : ℕ). written y a.at (last_digits a.digits n []))
    c.write_fraction-whole.ensures.kept
    c.write_fraction-whole.ensures.rest

pub write_places-requires : goal.write_places-requires
write_places-requires c =
    (c.requires.few.1, c.requires.few.2, omega (arith, c.requires.room, c.write_fraction.auto.out))

pub returns : goal.returns
returns c =
    let a = c.args in
    let groups = c.groups_of-g.ensures in
    c.write_places.ensures a.coefficient groups
    ∙ ap (λ (y : Bytes). written y a.at (last_digits a.digits (a.coefficient / 10 ^ a.scale) []))
    (c.write_fraction.ensures a.coefficient groups)
