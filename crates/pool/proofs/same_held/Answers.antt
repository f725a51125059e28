-- `pool::same_held` meets its contract: texts of different lengths differ. Assumes nothing.
use Prim.Native.Nat.{ℕ}
use mathlib.Core.Path.{◌≡◌, sym, ap, ◌∙◌, subst}
use native.Mathlib.Omega.{arith}
use lib.ListN.{length}
use Rattle.definitions.specs.Bytes.{same}
use Rattle.pool.specs.Pool.{text_in}
use Rattle.pool.proofs.ByteOrder.{same_false}
use Rattle.pool.proofs.same_held.Goals as goal

pub returns-then-n-m : goal.returns-then-n-m
returns-then-n-m c = record { compared = same_false (λ e. omega (arith, c.if-n-m.true, c.requires.0, c.requires.1, ap length e)) }

pub same_whole-requires : goal.same_whole-requires
same_whole-requires c =
    let a = c.args in
    (c.requires.0, subst (λ (k : ℕ). length (text_in a.pool.now a.v k) ≡ k) (sym c.if-n-m.false) c.requires.1)

pub returns : goal.returns
returns c =
    record {
      compared = let a = c.args in
          c.same_whole.ensures.compared
          ∙ ap (λ (k : ℕ). same (text_in a.pool.now a.w a.n) (text_in a.pool.now a.v k)) c.if-n-m.false;
    }
