-- `running::singles::literal_head` meets its contract. Assumes nothing.
use native.Mathlib.Omega.{arith}
use mathlib.Core.Path.{sym, ap, ◌∙◌}
use Rattle.nodes.specs.Nodes.{head_word}
use Rattle.running.proofs.SingleRows.{literal_number, literal_text, literal_yes, literal_no, literal_none, text_room, text_fits, text_made}
use Rattle.running.proofs.singles.literal_head.Goals as goal

pub number_head-requires : goal.number_head-requires
number_head-requires c =
    let x = literal_number c.code.ensures.read c.in-12.is c.operand.ensures.read c.payload-payload.ensures.read
    c.requires.used c.requires.value c.requires.held in
    record { number = x.0; held = x.2 }

pub returns-in-12 : goal.returns-in-12
returns-in-12 c =
    record {
      made = λ p v h. let x = literal_number c.code.ensures.read c.in-12.is c.operand.ensures.read
          c.payload-payload.ensures.read p v h in
          c.number_head.ensures.made x.0 x.2 ∙ ap head_word (sym x.1);
    }

pub text_length-written-requires : goal.text_length-written-requires
text_length-written-requires c =
    let x = literal_text c.code.ensures.read c.in-13.is c.payload-payload.ensures.read c.requires.used
    c.requires.value c.requires.held in
    text_room c.text_word-word.ensures.split c.text_bytes.ensures.split c.requires.held.pooled x.2

pub head_word-requires : goal.head_word-requires
head_word-requires c =
    let x = literal_text c.code.ensures.read c.in-13.is c.payload-payload.ensures.read c.requires.used
    c.requires.value c.requires.held in
    text_fits c.text_word-word.ensures.split c.text_bytes.ensures.split c.requires.held.pooled x.2 c.text_length-written.ensures.counted

pub returns-in-13 : goal.returns-in-13
returns-in-13 c =
    record {
      made = λ p v h. text_made c.text_word-word.ensures.split c.text_bytes.ensures.split c.text_length-written.ensures.counted
          c.head_word.ensures.made v h.pooled
          (literal_text c.code.ensures.read c.in-13.is c.payload-payload.ensures.read p v h);
    }

pub returns-in-14 : goal.returns-in-14
returns-in-14 c = record { made = literal_yes c.code.ensures.read c.in-14.is c.head_word-in-14.ensures.made }

pub returns-in-15 : goal.returns-in-15
returns-in-15 c = record { made = literal_no c.code.ensures.read c.in-15.is c.head_word-in-15.ensures.made }

pub returns-in_default : goal.returns-in_default
returns-in_default c =
    record {
      made = literal_none c.code.ensures.read (λ e. omega arith) (λ e. omega arith) (λ e. omega arith) (λ e. omega arith)
          c.head_word-in_default.ensures.made;
    }
