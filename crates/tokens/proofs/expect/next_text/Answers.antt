-- `tokens::expect::next_text` meets its contract. Assumes nothing.
use mathlib.Core.Path.{refl}
use lib.ListN.{length}
use Rattle.reading.proofs.Passed.{passed}
use Rattle.tokens.specs.Expecting.{ExpectsText}
use Rattle.tokens.proofs.Lexing.{found_text, text_room, lacks_broken}
use Rattle.tokens.proofs.Expected.{no_text_next, misses_at}
use Rattle.tokens.proofs.expect.next_text.Goals as goal

pub returns-in_err-place : goal.returns-in_err-place
returns-in_err-place c =
    record {
      read = passed (ExpectsText c.args.text.now c.args.at c.args.pool.now c.args.pool.now c.args.w) c.from_residual.ensures
          (record { answer = no_text_next c.in_err-place.ensures.stands; kept = record { size = refl; front = refl } });
    }

pub read_text-requires : goal.read_text-requires
read_text-requires c =
    let (s, l, e) = c.in_ok-place.ensures.stands.answer in
    text_room s l c.args.w (length c.args.pool.now) c.requires.1

pub returns-in-Ok : goal.returns-in-Ok
returns-in-Ok c =
    record {
      read = let (s, l, e) = c.in_ok-place.ensures.stands.answer in
          record {
            answer = found_text s l e c.in-Ok.ensures.read.answer;
            kept = record { size = c.read_text.ensures.read.kept; front = c.read_text.ensures.read.front };
          };
    }

pub returns-in-Err : goal.returns-in-Err
returns-in-Err c =
    record {
      read = let (s, l, e) = c.in_ok-place.ensures.stands.answer in
          record {
            answer = misses_at (lacks_broken s l e c.in-Err.ensures.read.answer) c.misplaced.ensures.place c.misplaced.ensures.cause;
            kept = record { size = c.read_text.ensures.read.kept; front = c.read_text.ensures.read.front };
          };
    }
