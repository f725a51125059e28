-- `form_reader::heads::read_lead` meets its contract. Assumes nothing.
use Rattle.reading.proofs.Passed.{passed}
use Rattle.form_reader.specs.FormParts.{ReadsLead}
use Rattle.form_reader.proofs.HeadReading.{lead_refused, lead_bare, lead_place_refused, lead_placed}
use Rattle.form_reader.proofs.heads.read_lead.Goals as goal

pub returns-in_err-head : goal.returns-in_err-head
returns-in_err-head c =
    record {
      read =
          passed
          (ReadsLead c.args.left c.args.values c.args.bound c.args.text.now c.args.forms.now c.args.pool.now c.args.forms.now c.read_head.new.pool c.args.c)
          c.from_residual.ensures (lead_refused c.args.left c.args.c c.requires c.in_err-head.ensures.read);
    }

pub returns-in_err-to : goal.returns-in_err-to
returns-in_err-to c =
    record {
      read =
          passed
          (ReadsLead c.args.left c.args.values c.args.bound c.args.text.now c.args.forms.now c.args.pool.now c.read_place.new.forms c.read_place.new.pool
          c.args.c)
          c.from_residual-in_err-to.ensures
          (lead_place_refused c.args.left c.args.c c.requires c.in_ok-head.ensures.read c.if-head-lt-IF.true c.in_err-to.ensures.read);
    }

pub returns-then-head-lt-IF : goal.returns-then-head-lt-IF
returns-then-head-lt-IF c =
    record {
      read =
          lead_placed c.args.left c.args.c c.requires c.in_ok-head.ensures.read c.if-head-lt-IF.true c.in_ok-to.ensures.read;
    }

pub returns : goal.returns
returns c = record { read = lead_bare c.args.left c.args.c c.requires c.in_ok-head.ensures.read c.if-head-lt-IF.false }
