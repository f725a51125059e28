-- `running::rows::name_length` meets its contract. Assumes nothing.
use mathlib.Core.Path.{ap, ◌∙◌}
use lib.ListN.{length}
use Rattle.running.proofs.Named.{name_plain, name_room}
use Rattle.running.proofs.rows.name_length.Goals as goal

pub text_length-requires : goal.text_length-requires
text_length-requires c =
    name_room c.row_name-k.ensures.read c.text_word.ensures.split c.text_bytes.ensures.split c.requires

pub returns : goal.returns
returns c =
    record {
      measured = λ p n h. c.text_length.ensures.counted
          ∙ ap length (name_plain c.row_name-k.ensures.read c.text_word.ensures.split c.text_bytes.ensures.split p n h);
    }
