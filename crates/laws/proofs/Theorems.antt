-- The statements of Statements.antt, proved: each by the lemmas of the files that it cites. Assumes nothing.
use Rattle.std.specs.Prelude.{refl}
use Rattle.std.proofs.Common.{ap, ◌∙◌}
use Rattle.definitions.specs.Limits.{standard, in_range}
use Rattle.definitions.specs.Outcome.{ok}
use Rattle.definitions.specs.Json.{read_json}
use Rattle.laws.proofs.JsonAdequate.{json_accepted_to, json_accepted_from, json_distinct, json_refused}
use Rattle.laws.proofs.TokenLaws.{tokens_are_derived}
use Rattle.laws.proofs.ShapeForms.{shape_accepted_to, shape_accepted_from, shape_ascending}
use Rattle.laws.proofs.ShapeCauses.{shape_refused}
use Rattle.laws.proofs.CauseRefuses.{json_cause_refuses, shape_cause_refuses, reader_cause_refuses, cause_numbered}
use Rattle.laws.proofs.WrittenShapes.{refusal_keeps, infer_reads_back, join_reads_back, check_reads_back}
use Rattle.laws.proofs.ReaderForms.{reader_accepted_to, reader_accepted_from}
use Rattle.laws.proofs.ReaderCauses.{reader_refused}
use Rattle.laws.proofs.RoundLaws.{plain_reads_back, plain_idempotent, plain_not_longer, json_read_good}
use Rattle.laws.proofs.RoundLaws.{shape_reads_back, shape_idempotent, shape_read_good, shape_of_good}
use Rattle.laws.proofs.WrittenDocuments.{result_reads_back, plain_operation_reads_back, run_operation_reads_back}
use Rattle.laws.proofs.WrittenDocuments.{plain_keeps, infer_keeps, join_keeps, check_keeps, run_keeps}
use Rattle.laws.proofs.OperationCausesHold.{plain_first, infer_first, join_first, below_first, admits_first}
use Rattle.laws.proofs.OperationCausesReaders.{check_first, run_first}
use Rattle.laws.specs.RunLaws.{run_refusals, run_steps_bounded}
use Rattle.laws.specs.OrderLaws.{below_refl, below_trans, below_antisym}
use Rattle.laws.specs.JoinLaws.{join_ascending, join_upper_left, join_upper_right, join_least}
use Rattle.laws.proofs.AdmitsLaws.{admits_below, below_admits}
use Rattle.laws.specs.SizeLaws.{forms_mono, levels_mono, write_mono}
use Rattle.laws.specs.CheckRulesHold.{checks_exactly, refuses_exactly, check_refusals}
use Rattle.laws.specs.RunRulesHold.{runs_exactly, stuck_exactly, out_exactly}
use Rattle.laws.specs.SoundSteps.{run_enough, run_stuck, run_13}
use Rattle.laws.proofs.Soundness.{sound}
use Rattle.laws.specs.Chain.{ProperSource}
use Rattle.laws.proofs.Demand3.{demand_3}
use Rattle.laws.specs.CallLaws.{writes_out, writes_short, writes_long, says_out, says_short, says_long}
use Rattle.laws.specs.AnswerWordsRead.{words_read_back}
use Rattle.laws.proofs.HostDemand3.{demand_3_over_calls, result_handed_on}
use Rattle.laws.specs.Statements.{DocumentsByTheRfc, DocumentsRefusedForCause, DocumentsRefusedForTheLeast}
use Rattle.laws.specs.Statements.{TokensByTheGrammar, ShapesRefusedForCause, ShapesRefusedForTheLeast, ShapesByTheGrammar}
use Rattle.laws.specs.Statements.{ReadersByTheGrammar, ReadersRefusedForCause, ReadersRefusedForTheLeast, DocumentsReadBack}
use Rattle.laws.specs.Statements.{ResultsReadBack, ValuesReadBack, ShapesReadBack, ReadShapesReadBack, WrittenShapesReadBack}
use Rattle.laws.specs.Statements.{RefusalsKeepTheOutput, PartialOrder, LeastUpperBound, AdmitsIsBelow, SizesGrow}
use Rattle.laws.specs.Statements.{CheckingByTheRules, RunningByTheRules, CheckedReadersAreSafe, Demand3FromEverySource}
use Rattle.laws.specs.Statements.{Demand3ForDocuments, StandardInRange}
use Rattle.laws.specs.Statements.{WrittenDocumentsReadBack, CallsKeepTheOutput, RefusedWithTheFirstCause}
use Rattle.laws.specs.Statements.{CallsAreOperations, AnswersReadBack, Demand3OfCallsFromEverySource, Demand3OfCalls}
use Rattle.laws.proofs.LargerLimits.{json_reads_on, operations_go_on, calls_go_on}
use Rattle.laws.proofs.BlankReaders.{no_token_blank, blank_reads, none_runs, none_checks, check_alike, run_alike, check_call_alike, run_call_alike}
use Rattle.laws.specs.Statements.{OnlyTheStepsRunOut, ResultsHandedOn, LargerSetsGoOnFromEverySource, LargerSetsGoOn}
use Rattle.laws.specs.ThroughNull.{passes_again, checked_before, was_unwanted, ends_again, ran_before, was_stuck, reads_null}
use Rattle.laws.specs.ThroughNullOperations.{check_before, run_before, check_call_before, run_call_before}
use Rattle.laws.proofs.IntDigits.{ints_by_digits}
use Rattle.laws.proofs.IntConversions.{int_shaped, int_admitted, int_given, given_admitted, given_reads_back}
use Rattle.laws.specs.Statements.{BlankReadersMeanNone, ReadsThroughNull, ZeroFractionsAreInts}
use Rattle.laws.proofs.WidensSamples.{widening, samples_widen}
use Rattle.laws.specs.Statements.{ReadersWiden, NewSamplesWidenFromEverySource, NewSamplesWiden}

-- ---- reading

pub documents_by_the_rfc : DocumentsByTheRfc
documents_by_the_rfc l s v =
    (json_accepted_to l s v, λ (x, h, f, m). json_accepted_from l s x h f ∙ ap ok m)

pub documents_refused_for_cause : DocumentsRefusedForCause
documents_refused_for_cause = json_refused

pub documents_refused_for_the_least : DocumentsRefusedForTheLeast
documents_refused_for_the_least = json_cause_refuses

pub tokens_by_the_grammar : TokensByTheGrammar
tokens_by_the_grammar = tokens_are_derived

pub shapes_refused_for_cause : ShapesRefusedForCause
shapes_refused_for_cause = shape_refused

pub shapes_refused_for_the_least : ShapesRefusedForTheLeast
shapes_refused_for_the_least = shape_cause_refuses

pub shapes_by_the_grammar : ShapesByTheGrammar
shapes_by_the_grammar l s t = (shape_accepted_to l s t, λ (f, a, b). shape_accepted_from l s t f a b)

pub readers_by_the_grammar : ReadersByTheGrammar
readers_by_the_grammar l s r = (reader_accepted_to l s r, reader_accepted_from l s r)

pub readers_refused_for_cause : ReadersRefusedForCause
readers_refused_for_cause = reader_refused

pub readers_refused_for_the_least : ReadersRefusedForTheLeast
readers_refused_for_the_least = reader_cause_refuses

-- ---- round trips

pub documents_read_back : DocumentsReadBack
documents_read_back l s v e = (plain_idempotent l s v e, plain_not_longer l s v e)

pub results_read_back : ResultsReadBack
results_read_back = result_reads_back

pub values_read_back : ValuesReadBack
values_read_back = plain_reads_back

pub shapes_read_back : ShapesReadBack
shapes_read_back = shape_reads_back

pub read_shapes_read_back : ReadShapesReadBack
read_shapes_read_back l s t e = (shape_ascending l s t e, shape_read_good l s t e, shape_idempotent l s t e)

pub written_shapes_read_back : WrittenShapesReadBack
written_shapes_read_back = record { by_infer = infer_reads_back; by_join = join_reads_back; by_check = check_reads_back }

pub written_documents_read_back : WrittenDocumentsReadBack
written_documents_read_back = record { by_plain = plain_operation_reads_back; by_run = run_operation_reads_back }

-- ---- refusals

pub refusals_keep_the_output : RefusalsKeepTheOutput
refusals_keep_the_output = refusal_keeps

pub calls_keep_the_output : CallsKeepTheOutput
calls_keep_the_output =
    record { by_plain = plain_keeps; by_infer = infer_keeps; by_join = join_keeps; by_check = check_keeps; by_run = run_keeps }

pub refused_with_the_first_cause : RefusedWithTheFirstCause
refused_with_the_first_cause =
    record {
      by_plain = plain_first;
      by_infer = infer_first;
      by_join = join_first;
      by_below = below_first;
      by_admits = admits_first;
      by_check = check_first;
      by_run = run_first;
    }

-- ---- order and join

pub partial_order : PartialOrder
partial_order = record { reflexive = below_refl; transitive = below_trans; antisymmetric = below_antisym }

pub least_upper_bound : LeastUpperBound
least_upper_bound =
    record { well_formed = join_ascending; above_left = join_upper_left; above_right = join_upper_right; least = join_least }

pub admits_is_below : AdmitsIsBelow
admits_is_below s v d a = (admits_below s v d a, below_admits s v d a)

pub sizes_grow : SizesGrow
sizes_grow = record { in_forms = forms_mono; in_nesting = levels_mono; in_bytes = write_mono }

-- ---- checking

pub checking_by_the_rules : CheckingByTheRules
checking_by_the_rules = record { gives = checks_exactly; refuses = refuses_exactly; numbers = check_refusals }

-- ---- running

pub running_by_the_rules : RunningByTheRules
running_by_the_rules =
    record {
      gives = runs_exactly;
      stuck = stuck_exactly;
      out_of_steps = out_exactly;
      numbers = run_refusals;
      within_the_limit = run_steps_bounded;
    }

pub only_the_steps_run_out : OnlyTheStepsRunOut
only_the_steps_run_out = record { given_again = run_enough; stuck_again = run_stuck; too_few = run_13 }

-- ---- soundness and demand 3

pub checked_readers_are_safe : CheckedReadersAreSafe
checked_readers_are_safe = sound

pub demand_3_from_every_source : Demand3FromEverySource
demand_3_from_every_source = demand_3

-- JSON keeps to what is asked of a source
pub json_proper : ProperSource read_json
json_proper =
    record {
      numbered = λ l s n p e. cause_numbered (json_refused l s n p e);
      names_once = json_distinct;
      names_in_utf8 = λ l s v e. shape_of_good v (json_read_good l s v e);
    }

pub demand_3_for_documents : Demand3ForDocuments
demand_3_for_documents = demand_3 read_json json_proper

-- ---- demand 3 over C calls

pub calls_are_operations : CallsAreOperations
calls_are_operations =
    record {
      writes_out = writes_out;
      writes_short = writes_short;
      writes_long = writes_long;
      says_out = says_out;
      says_short = says_short;
      says_long = says_long;
    }

pub answers_read_back : AnswersReadBack
answers_read_back = words_read_back

pub demand_3_of_calls_from_every_source : Demand3OfCallsFromEverySource
demand_3_of_calls_from_every_source = demand_3_over_calls

pub demand_3_of_calls : Demand3OfCalls
demand_3_of_calls = demand_3_over_calls read_json json_proper

pub results_handed_on : ResultsHandedOn
results_handed_on l r v u output answer c e z small = result_handed_on e z small

pub standard_in_range : StandardInRange
unfolding standard in_range
standard_in_range = refl

-- ---- request Q-6: one set beside another

pub larger_sets_go_on_from_every_source : LargerSetsGoOnFromEverySource
larger_sets_go_on_from_every_source source proper on = (operations_go_on source proper on, calls_go_on source proper on)

pub larger_sets_go_on : LargerSetsGoOn
larger_sets_go_on = larger_sets_go_on_from_every_source read_json json_proper json_reads_on

-- ---- request Q-7: an empty reader

pub blank_readers_mean_none : BlankReadersMeanNone
blank_readers_mean_none =
    record {
      tokenless = no_token_blank;
      read_as = blank_reads;
      gives = none_runs;
      shaped = none_checks;
      by_check = check_alike;
      by_run = run_alike;
      by_check_call = check_call_alike;
      by_run_call = run_call_alike;
    }

-- ---- request Q-2: reading through null

pub reads_through_null : ReadsThroughNull
reads_through_null =
    record {
      passes = passes_again;
      checked = checked_before;
      was_unwanted = was_unwanted;
      ends = ends_again;
      ran = ran_before;
      was_stuck = was_stuck;
      on_null = reads_null;
      by_check = check_before;
      by_run = run_before;
      by_check_call = check_call_before;
      by_run_call = run_call_before;
    }

-- ---- request Q-5: whole watts written 12.0

pub zero_fractions_are_ints : ZeroFractionsAreInts
zero_fractions_are_ints =
    record {
      by_digits = λ m c d n s r f. ints_by_digits m f;
      shaped = int_shaped;
      admitted = int_admitted;
      converted = int_given;
      admitted_by_int = given_admitted;
      reads_back = given_reads_back;
    }

-- ---- request Q-13: what a new sample does to old readers

pub readers_widen : ReadersWiden
readers_widen = widening

pub new_samples_widen_from_every_source : NewSamplesWidenFromEverySource
new_samples_widen_from_every_source = samples_widen

pub new_samples_widen : NewSamplesWiden
new_samples_widen = samples_widen read_json json_proper
