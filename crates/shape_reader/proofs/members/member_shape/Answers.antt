-- `shape_reader::members::member_shape` meets its contract. Assumes nothing.
use native.Mathlib.Omega.{arith}
use Rattle.nodes.specs.Nodes.{reference}
use Rattle.reading.proofs.Passed.{passed}
use Rattle.shape_reader.specs.ShapeParts.{NamesMember}
use Rattle.shape_reader.proofs.MemberReading.{name_refused, name_small, name_late, name_taken}
use Rattle.shape_reader.proofs.members.member_shape.Goals as goal

pub returns-in_err-read : goal.returns-in_err-read
returns-in_err-read c =
    record {
      read = passed (NamesMember c.args.latest c.args.text.now c.args.pool.now c.read_name.new.pool c.args.at c.args.c) c.from_residual.ensures
          (name_refused c.args.latest c.args.c c.requires c.in_err-read.ensures.read);
    }

pub text_reference-name-requires : goal.text_reference-name-requires
unfolding reference
text_reference-name-requires c =
    let small = name_small c.args.latest c.args.c c.requires c.in_ok-read.ensures.read in
    omega (arith, small.0, small.1)

pub returns : goal.returns
returns c =
    record {
      read = name_taken c.args.latest c.args.c c.requires c.in_ok-read.ensures.read c.ascends.ensures.told c.if-not-ascends.false
          c.text_reference-name.ensures.made;
    }

pub returns-then-not-ascends : goal.returns-then-not-ascends
returns-then-not-ascends c =
    record {
      read = name_late c.args.latest c.args.c c.requires c.in_ok-read.ensures.read c.ascends.ensures.told c.if-not-ascends.true
          c.misplaced.ensures.place c.misplaced.ensures.cause;
    }
