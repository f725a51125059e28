-- `join::put_member` meets its contract. Assumes nothing.
use native.Mathlib.Omega.{arith}
use Rattle.shapes.specs.ShapesLaws.{stands_size, stands_within}
use Rattle.join.proofs.Members.{put_member_full, put_member_grown, put_member_head}
use Rattle.join.proofs.put_member.Goals as goal

pub put_rows-requires : goal.put_rows-requires
put_rows-requires c =
    let w = c.requires in
    record {
      before = w.before;
      used_within = w.used_within;
      within = omega (arith, c.size-count.ensures.read, stands_size w.stands, stands_within w.stands);
    }

pub returns-in_err-words : goal.returns-in_err-words
returns-in_err-words c =
    record {
      put = rw c.from_residual.ensures (λ p k b h. let s = c.args in
          let w = c.requires in
          put_member_full s.shapes.now c.put_rows.new.shapes s.second.now s.used s.at s.from c.size-count.result h
          c.size-count.ensures.read
          c.in_err-words.ensures.put);
    }

pub add_null-requires : goal.add_null-requires
add_null-requires c =
    let s = c.args in
    let w = c.requires in
    let q = c.in_ok-words.ensures.put in
    let facts = put_member_head s.shapes.now c.put_rows.new.shapes s.second.now s.used s.at s.from c.size-count.result _ q
    w.before w.used_within w.stands c.size-count.ensures.read w.small in record { row_in_bounds = facts.0; fits = facts.1 }

pub returns : goal.returns
returns c =
    record {
      put = λ p k b h. let s = c.args in
          let w = c.requires in
          let q = c.in_ok-words.ensures.put in
          put_member_grown s.shapes.now c.put_rows.new.shapes s.second.now s.used s.at s.from c.size-count.result _ q
          w.before w.used_within h c.size-count.ensures.read c.add_null.ensures.added c.add_null.auto.shapes;
    }
