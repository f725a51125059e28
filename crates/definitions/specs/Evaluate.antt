-- Every definition of this folder on one `unfolding` line, for proofs by evaluation: `unfolding evaluate`.
-- Written by tools/evaluate-list. Assumes nothing.
use Rattle.definitions.specs.Limits
use Rattle.definitions.specs.Bytes
use Rattle.definitions.specs.Outcome
use Rattle.definitions.specs.Utf8
use Rattle.definitions.specs.Text
use Rattle.definitions.specs.Number
use Rattle.definitions.specs.Value
use Rattle.definitions.specs.Json
use Rattle.definitions.specs.Plain
use Rattle.definitions.specs.Shape
use Rattle.definitions.specs.Order
use Rattle.definitions.specs.Join
use Rattle.definitions.specs.Admits
use Rattle.definitions.specs.Tokens
use Rattle.definitions.specs.ShapeText
use Rattle.definitions.specs.Reader
use Rattle.definitions.specs.Checking
use Rattle.definitions.specs.Running
use Rattle.definitions.specs.Operations
use Rattle.definitions.specs.Calls

unfoldable pub evaluate : Unit {0}
unfolding Limits.standard Limits.smallest Limits.in_range Bytes.bytes Bytes.between Bytes.look Bytes.is Bytes.white_table Bytes.found Bytes.white Bytes.order
    Bytes.same Outcome.◌>>=◌ Outcome.place Outcome.placed Utf8.head_table Utf8.encode Text.head_step Text.char_step Text.behind_tail Text.escape_table
    Text.escape_step Text.hex_table Text.digit_fits Text.pair_of Text.unicode Text.digit_step Text.text_step Number.is_int Number.whole Number.most_coefficient
    Number.most_scale Number.no_digits Number.beyond Number.number_of Number.e_rows Number.int_rows Number.next Number.complete Number.shifted Number.extend
    Number.spelled Value.items_onto Value.members_onto Value.has_name Value.count Value.size Value.nesting Json.true_name Json.false_name Json.null_name
    Json.put Json.spell Json.value_rows Json.value_move Json.name_move Json.token_move Json.gap_move Json.close_move Json.text_move Json.number_end Json.move
    Json.gap_end Json.end_move Json.depth Json.full Json.judge Json.scan Json.read_json Plain.decimal_within Plain.decimal Plain.last_digits Plain.fraction
    Plain.minus Plain.plain_number Plain.short_escapes Plain.hex_digit Plain.escaped Plain.escaped_all Plain.plain_text Plain.plain_bool Plain.plain
    Shape.all_kinds Shape.rank Shape.among Shape.every Shape.nothing Shape.has_int Shape.has_dec Shape.has_list Shape.has_rec Shape.has Shape.within
    Shape.element_of Shape.record_of Shape.find Shape.only_null Shape.only_bool Shape.only_numeric Shape.only_text Shape.only_list Shape.only_rec Shape.before
    Shape.behind Shape.ascending Shape.forms Shape.levels Order.kinds_in Order.lacked_have_null Order.below Join.with_null Join.join_numeric Join.add_null
    Join.put_field Join.join Join.insert Join.numeric_of Join.shape_of Admits.kind_of Admits.missing_have_null Admits.admitted Admits.admits Tokens.at_place
    Tokens.border_table Tokens.ended Tokens.longer Tokens.lex Tokens.tokens Tokens.want_open Tokens.want_close Tokens.want_text Tokens.want_word
    Tokens.where_true Tokens.where_some Tokens.look_word Tokens.want_named Tokens.judge_step Tokens.or_end Tokens.read_tokens ShapeText.no_parts
    ShapeText.with_kind ShapeText.with_element ShapeText.with_member ShapeText.put ShapeText.depth ShapeText.fields_onto ShapeText.numeric_from
    ShapeText.record_from ShapeText.build ShapeText.kind_name ShapeText.kind_words ShapeText.shape_words ShapeText.member_words ShapeText.in_order
    ShapeText.may_follow ShapeText.name_fits ShapeText.member_step ShapeText.element_step ShapeText.bracket_step ShapeText.kind_step ShapeText.want_step
    ShapeText.step ShapeText.finished ShapeText.read_shape ShapeText.write_kinds ShapeText.new_line ShapeText.write ShapeText.write_shape Reader.use_place
    Reader.put_place Reader.use_result Reader.put_result Reader.depth Reader.place_depth Reader.binds Reader.bindings Reader.place_bindings Reader.word_number
    Reader.index_fits Reader.among_pairs Reader.pairs_onto Reader.test_words Reader.place_words Reader.result_words Reader.index_step Reader.literal_step
    Reader.pack_step Reader.want_step Reader.step Reader.finished_result Reader.finished_place Reader.empty_reader Reader.read_result Reader.read_reader
    Reader.read_place Checking.field_kinds Checking.convert_kinds Checking.list_kinds Checking.if_kinds Checking.wants Checking.listed Checking.gain_null
    Checking.field_shape Checking.convert_shape Checking.element_shape Checking.test_kinds Checking.stay_numeric Checking.stay_element Checking.stay_record
    Checking.stay Checking.cut_to Checking.taken_out Checking.check_place Checking.check Checking.check_reader Running.gives Running.enter Running.stuck_unless
    Running.member_of Running.members_of Running.field_value Running.whole_value Running.converted Running.items_of Running.int_value Running.truth
    Running.run_place Running.run_items Running.run Running.run_reader Operations.refusal Operations.output_short Operations.written Operations.said
    Operations.◌>>=◌ Operations.source Operations.in_text Operations.judge_text Operations.judge_both Operations.slices_short Operations.judge_work
    Operations.judge_limits Operations.prelude Operations.shape_out Operations.result_out Operations.deliver Operations.finish Operations.say
    Operations.plain_judged Operations.infer_judged Operations.join_judged Operations.below_judged Operations.admits_judged Operations.check_judged
    Operations.run_judged Operations.plain_operation Operations.infer_operation Operations.join_operation Operations.below_operation Operations.admits_operation
    Operations.check_operation Operations.run_operation Calls.little_endian Calls.as_word Calls.answer_words Calls.answered Calls.call Calls.quiet
    Calls.plain_call Calls.infer_call Calls.join_call Calls.below_call Calls.admits_call Calls.check_call Calls.run_call
evaluate = tt
