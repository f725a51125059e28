-- `json_reader::scalar::put_number` meets its contract. Assumes nothing.
use Prim.Native.Nat.{ℕ}
use mathlib.Core.Path.{refl, ap, ◌∙◌}
use native.Mathlib.Omega.{arith}
use Rattle.definitions.specs.Number.{most_scale}
use Rattle.definitions.specs.Value.{Value}
use Rattle.definitions.specs.Plain.{plain}
use Rattle.nodes.specs.Nodes.{kind_code, number_bits}
use Rattle.nodes.specs.NodesLaws.{head_word_is}
use Rattle.number.specs.NumberRead.{number_in}
use Rattle.number.specs.DecimalLaws.{plain_short}
use Rattle.json_reader.proofs.Scalars.{sign_small}
use Rattle.nodes.specs.RowLaws.{with_row}
use Rattle.json_reader.proofs.scalar.put_number.Goals as goal

pub number_bits-bits-requires : goal.number_bits-bits-requires
unfolding most_scale
number_bits-bits-requires c = omega (arith, c.requires.row.2.scale)

pub written_length-written-requires : goal.written_length-written-requires
written_length-written-requires c =
    (c.requires.row.2, c.requires.row.3)

pub head_word-head-requires : goal.head_word-head-requires
unfolding most_scale
head_word-head-requires c =
    omega (
      arith,
      c.requires.row.2.scale,
      c.number_bits-bits.ensures.made,
      sign_small c.args.x.negative,
      c.written_length-written.ensures,
      plain_short (number_in c.args.x) c.requires.row.2,
    )

pub returns : goal.returns
unfolding kind_code number_bits plain
returns c =
    record {
      put = record {
        row =
            c.put_row.ensures.put
            ∙ ap (λ (h : ℕ). with_row c.args.nodes.now c.args.c.begun h c.args.x.coefficient c.args.name)
            (c.head_word-head.ensures.made
            ∙ head_word_is (Value.number (number_in c.args.x)) refl c.number_bits-bits.ensures.made
            c.written_length-written.ensures);
        answer = c.done.ensures.packed;
        short = plain_short (number_in c.args.x) c.requires.row.2;
      };
    }
