-- `join::put_members` meets its contract. Assumes nothing.
use native.Mathlib.Omega.{arith}
use Rattle.shapes.specs.ShapesLaws.{stands_size, stands_within, stands_row}
use Rattle.join.proofs.Parts.{putting, members_within, head_room, put_members_room, put_members_full, put_members_grown}
use Rattle.join.proofs.put_members.Goals as goal

pub overflow_add-end : goal.overflow_add-end
overflow_add-end c =
    let s = c.args in
    let w = c.requires.beside in
    omega (arith, c.size.ensures.read, stands_size w.both.ours, w.both.within, w.both.used_within, w.small)

pub members-from-requires : goal.members-from-requires
members-from-requires c =
    let s = c.args in
    let w = c.requires.beside in
    record { row_in_bounds = stands_row w.both.theirs; within = members_within w.theirs w.both.theirs c.well_formed.1.1.1.0.0 }

pub overflow_add-to : goal.overflow_add-to
overflow_add-to c =
    let s = c.args in
    let w = c.requires.beside in
    omega (arith, c.size-2.ensures.read, stands_size w.both.theirs, stands_within w.both.theirs, c.well_formed.1.1.1.0.0)

pub overflow_sub-to : goal.overflow_sub-to
overflow_sub-to c =
    let s = c.args in
    let w = c.requires.beside in
    let h = putting s.row s.other c.size.ensures.read c.members-from.ensures.found c.size-2.ensures.read in
    (put_members_room w.ours w.theirs w.both h).2

pub put_rows-requires : goal.put_rows-requires
put_rows-requires c =
    let s = c.args in
    let w = c.requires.beside in
    let h = putting s.row s.other c.size.ensures.read c.members-from.ensures.found c.size-2.ensures.read in
    let m = put_members_room w.ours w.theirs w.both h in
    record {
      before = m.1;
      used_within = w.both.used_within;
      within = omega (arith, m.2, m.3);
    }

pub returns-in_err-words : goal.returns-in_err-words
returns-in_err-words c =
    record {
      put = rw c.from_residual.ensures (λ p m k a b v. let s = c.args in
          let w = c.requires.beside in
          let h = putting s.row s.other c.size.ensures.read c.members-from.ensures.found c.size-2.ensures.read in
          put_members_full c.requires.lacks c.requires.there h a b v
          c.in_err-words.ensures.put);
    }

pub grow_head-requires : goal.grow_head-requires
grow_head-requires c =
    let s = c.args in
    let w = c.requires.beside in
    let h = putting s.row s.other c.size.ensures.read c.members-from.ensures.found c.size-2.ensures.read in
    let q = c.in_ok-words.ensures.put in
    let m = put_members_room w.ours w.theirs w.both h in
    let facts = head_room s.row 64 q.replaced w.both.ours m.0 m.1 w.both.used_within w.small (omega arith) in record { row_in_bounds = facts.0; fits = facts.1 }

pub returns : goal.returns
returns c =
    record {
      put = λ p m k a b v. let s = c.args in
          let w = c.requires.beside in
          let h = putting s.row s.other c.size.ensures.read c.members-from.ensures.found c.size-2.ensures.read in
          let q = c.in_ok-words.ensures.put in
          put_members_grown c.requires.lacks c.requires.there h a b v q c.grow_head.ensures.told c.grow_head.auto.shapes;
    }
