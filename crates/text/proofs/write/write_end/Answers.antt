-- `text::write::write_end` meets its contract. Assumes nothing.
use Prim.Native.Nat.{◌<◌}
use mathlib.Core.Path.{sym}
use native.Mathlib.Omega.{arith}
use Rattle.text.specs.WritesLaws.{writes_none, writes_as}
use Rattle.text.proofs.Onward.{word_within, bare_front, length_bare_front, escaped_end}
use Rattle.text.proofs.write.write_end.Goals as goal

pub returns-then-n-eq0 : goal.returns-then-n-eq0
returns-then-n-eq0 c =
    record {
      written = let a = c.args in
          writes_as (sym (escaped_end a.pool.now a.w a.n c.if-n-eq0.true)) (writes_none a.out.now a.at);
    }

pub offset_bounds-pool-w : goal.offset_bounds-pool-w
offset_bounds-pool-w c =
    let a = c.args in
    omega (arith, word_within a.pool.now a.w a.n c.requires.1 (omega (arith, c.if-n-eq0.false)), c.well_formed)

pub bounds-pool-w : goal.bounds-pool-w
bounds-pool-w c =
    let a = c.args in
    word_within a.pool.now a.w a.n c.requires.1 (omega (arith, c.if-n-eq0.false))

pub store_front-requires : goal.store_front-requires
store_front-requires c =
    let a = c.args in
    let some : 0 < a.n = omega (arith, c.if-n-eq0.false) in (
      some,
      c.requires.0,
      omega (
        arith,
        c.requires.2,
        length_bare_front a.pool.now a.w a.n c.requires.1 some c.requires.0
            (c.starts_bare.ensures.told c.if-starts_bare.true),
      ),
    )

pub returns-then-starts_bare : goal.returns-then-starts_bare
returns-then-starts_bare c =
    record {
      written = let a = c.args in
          writes_as (sym (bare_front a.pool.now a.w a.n c.requires.1 (omega (arith, c.if-n-eq0.false)) c.requires.0
          (c.starts_bare.ensures.told c.if-starts_bare.true)))
          c.store_front.ensures.stored;
    }

pub write_mixed-requires : goal.write_mixed-requires
write_mixed-requires c =
    (c.requires.1, c.requires.2)
