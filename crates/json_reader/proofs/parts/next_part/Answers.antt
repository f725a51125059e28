-- `json_reader::parts::next_part` meets its contract. Assumes nothing.
use mathlib.Core.Path.{sym, ◌∙◌}
use native.Mathlib.Omega.{arith}
use Rattle.json_reader.proofs.Scan.{byte_inside}
use Rattle.json_reader.proofs.White.{token_here, token}
use Rattle.json_reader.proofs.Answers.{as_word}
use Rattle.json_reader.proofs.Turns.{closing_byte, code_small, next_part_more, next_part_stop, next_part_broken}
use Rattle.json_reader.proofs.parts.next_part.Goals as goal

pub returns-then-peek-eq-COMMA : goal.returns-then-peek-eq-COMMA
returns-then-peek-eq-COMMA c =
    record {
      gone = let next = token_here (sym c.peek.ensures.read ∙ c.if-peek-eq-COMMA.true) (omega arith) in
          record {
            answer = λ seen left values nodes₀ pool₀ pool op. record { answer = next_part_more c.args.c c.args.to c.requires c.args.bracket op next };
            ahead = next.ahead;
          };
    }

pub returns-then-b-eq-COMMA : goal.returns-then-b-eq-COMMA
returns-then-b-eq-COMMA c =
    record {
      gone = let next = token c.skip_white-i.ensures.skipped (sym c.peek-b.ensures.read ∙ c.if-b-eq-COMMA.true) (omega arith) in
          record {
            answer = λ seen left values nodes₀ pool₀ pool op. record { answer = next_part_more c.args.c c.args.to c.requires c.args.bracket op next };
            ahead = next.ahead;
          };
    }

pub put_row_of-requires : goal.put_row_of-requires
put_row_of-requires c =
    let small = code_small c.args.bracket in
    let inside = byte_inside c.args.doc.now c.skip_white-i.result
    (sym c.peek-b.ensures.read ∙ c.if-b-closing.true ∙ c.closing.ensures) (closing_byte c.args.bracket) in
    record {
      rows = (omega arith, omega arith, omega arith);
      head = omega arith;
      packed = (omega arith, omega arith, omega arith);
    }

pub returns-then-b-closing : goal.returns-then-b-closing
returns-then-b-closing c =
    record {
      gone = record {
        answer = λ seen left values nodes₀ pool₀ pool op.
            record {
              answer = next_part_stop c.args.c c.args.to c.requires c.args.bracket op
                  (token c.skip_white-i.ensures.skipped (sym c.peek-b.ensures.read ∙ c.if-b-closing.true ∙ c.closing.ensures)
                  (closing_byte c.args.bracket))
                  c.put_row_of.ensures.closed;
            };
        ahead = tt;
      };
    }

pub returns : goal.returns
returns c =
    record {
      gone = record {
        answer = λ seen left values nodes₀ pool₀ pool op.
            record {
              answer = as_word c.refused.ensures.packed
                  (next_part_broken c.args.c c.args.to c.requires c.args.bracket op
                  (record {
                    skips = c.skip_white-i.ensures.skipped;
                    first = λ q. c.if-b-eq-COMMA.false (c.peek-b.ensures.read ∙ q);
                    second = λ q. c.if-b-closing.false (c.peek-b.ensures.read ∙ q ∙ sym c.closing.ensures);
                  }));
            };
        ahead = tt;
      };
    }
