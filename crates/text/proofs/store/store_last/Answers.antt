-- `text::store::store_last` meets its contract: what is stored of the bytes after each branch (`Stored`). Assumes nothing.
use Prim.Native.Nat.{ℕ, ◌+◌, ◌-◌, ◌/◌, ◌%◌}
use mathlib.Core.Path.{◌≡◌, refl}
use native.Mathlib.Omega.{arith}
use Rattle.text.specs.WritesLaws.{writes_from}
use Rattle.text.proofs.Stores.{Stored, stored_none, stored_more, stored_as, stored_all}
use Rattle.text.proofs.store.store_last.Goals as goal
use Rattle.text.proofs.store.store_last.Goals.{then-n-ne0, else-n-ne0, then-n-ne0-2, else-n-ne0-2, then-n-ge4, else-n-ge4}

two_more : (n : ℕ) → (n / 2 % 2 ≡ 0 → ⊥) → n - n % 2 - 2 ≡ n - n % 4
two_more n h = let e : n / 2 % 2 ≡ 1 = omega arith in let f : n % 4 ≡ n % 2 + 2 = omega arith in omega arith

pub returns : goal.returns
returns c =
    record {
      stored = let a = c.args in
          let room = c.requires.1 in
          let few = c.requires.0 in
          let none = stored_none a.out.now a.at a.x a.n in
          let odd : Stored a.out.now c.if-n-ne0.out a.at a.x a.n (a.n - a.n % 2) c.if-n-ne0.end c.if-n-ne0.y =
          elim c.if-n-ne0.branch [
            | then-n-ne0 w ↦
                stored_as (stored_more 1 none (omega (arith, w.if-n-ne0.true)) (omega arith) room w.store.ensures.stored) w.out-is
                (omega (arith, w.if-n-ne0.true)) w.y-is w.end-is
            | else-n-ne0 w ↦ stored_as none w.out-is (omega (arith, w.if-n-ne0.false)) w.y-is w.end-is
          ] in
          let pairs : Stored a.out.now c.if-n-ne0-2.out a.at a.x a.n (a.n - a.n % 4) c.if-n-ne0-2.end c.if-n-ne0-2.y =
          elim c.if-n-ne0-2.branch [
            | then-n-ne0-2 w ↦
                stored_as (stored_more 2 odd (omega (arith, w.if-n-ne0-2.true)) (omega arith) room w.store-then-n-ne0-2.ensures.stored) w.out-is
                (two_more a.n w.if-n-ne0-2.true) w.y-is w.end-is
            | else-n-ne0-2 w ↦ stored_as odd w.out-is (omega (arith, w.if-n-ne0-2.false)) w.y-is w.end-is
          ] in
          elim c.if-n-ge4.branch [
            | then-n-ge4 w ↦
                let e : a.at ≡ c.if-n-ne0-2.end - 4 = omega (arith, pairs.place, w.if-n-ge4.true) in
                stored_all
                (stored_as (stored_more 4 pairs (omega (arith, w.if-n-ge4.true)) (omega arith) room (writes_from e w.store-then-n-ge4.ensures.stored))
                w.out-is refl refl refl)
                (omega arith)
            | else-n-ge4 w ↦ stored_all (stored_as pairs w.out-is refl refl refl) (omega (arith, w.if-n-ge4.false))
          ];
    }
