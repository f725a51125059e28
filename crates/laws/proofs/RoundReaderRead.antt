-- A reader that was read is good: its names and texts are UTF-8, and its numbers keep the paper's limits. Assumes nothing.
use Rattle.std.specs.Prelude.{ℕ, ◌≡◌, refl, Bool, true, false, not, List, [], ◌∷◌, length}
use Rattle.std.proofs.Common.{subst}
use Rattle.std.proofs.Math.Option.{Option, none, some, none-ne-some, some-injective}
use Rattle.definitions.specs.declared.Limits.{Limits}
use Rattle.definitions.specs.Bytes.{Bytes, same}
use Rattle.definitions.specs.Outcome.{ok}
use Rattle.definitions.specs.Number.{Numeral, no_digits, beyond, begin, spelled}
use Rattle.definitions.specs.Tokens.{Token, Placed, want_named, Named, named, look_word}
use Rattle.definitions.specs.Reader.{Place, Test, Result, Pairs, Frame, each_body, when_first, when_second, if_first, if_second, if_third, pack_part, Around}
use Rattle.definitions.specs.Reader.{text_end, in_form, PlaceUse, converts, keeps, counts, maps, tests, PlaceAround, place_end, in_field, in_result, Want}
use Rattle.definitions.specs.Reader.{place_open, place_word, it_index, field_name, place_close, result_open, result_word, when_test, num_number, str_text}
use Rattle.definitions.specs.Reader.{pack_name, result_close, State, want, whole_place, whole_result, use_place, put_place, use_result, put_result}
use Rattle.definitions.specs.Reader.{place_bindings, word_number, index_fits, among_pairs, pairs_onto, test_words, place_words, result_words, index_step}
use Rattle.definitions.specs.Reader.{literal_step, pack_step, want_step, step, finished_result, empty_reader, read_result, read_reader}
use Rattle.laws.specs.Rfc3629.{UTF8Octets}
use Rattle.laws.specs.Good.{good_null, good_bool, good_number, good_text, GoodPlace, good_it, good_field_of, GoodReader, good_convert, good_keep}
use Rattle.laws.specs.Good.{good_count, good_each, good_when, good_choose, good_literal, good_pack, GoodPairs, good_no_pairs, good_pair}
use Rattle.laws.proofs.NumberRound.{good_number as number_good}
use Rattle.laws.proofs.LexGood.{GoodToken, good_opening, good_closing, good_quoted, good_word}
use Rattle.laws.proofs.LexGood.{good_broken, GoodTokens, good_no_tokens, good_then, tokens_good}
use Rattle.laws.proofs.RoundOutcome.{Gives, gives_ok, gives_holds, Leads, leads_nowhere, leads_on, leads_in, tokens_give}
use Rattle.laws.proofs.RoundShapeRead.{want_open_leads, want_close_leads, want_text_leads, want_word_leads, where_true_leads, where_some_leads}

-- ---- good states

data GoodFrame : Frame → Type 0 where
  good_each_body : {p : Place} → GoodPlace p → GoodFrame (each_body p)
  good_when_first : {k : Test} {p : Place} → GoodPlace p → GoodFrame (when_first k p)
  good_when_second : {k : Test} {p : Place} {r : Result} → GoodPlace p → GoodReader r → GoodFrame (when_second k p r)
  good_if_first : GoodFrame if_first
  good_if_second : {r : Result} → GoodReader r → GoodFrame (if_second r)
  good_if_third : {r₁ r₂ : Result} → GoodReader r₁ → GoodReader r₂ → GoodFrame (if_third r₁ r₂)
  good_pack_part : {ps : Pairs} {n : Bytes} → GoodPairs ps → UTF8Octets n → GoodFrame (pack_part ps n)

data GoodAround : Around → Type 0 where
  good_end : GoodAround text_end
  good_in_form : {at : ℕ} {f : Frame} {o : Around} → GoodFrame f → GoodAround o → GoodAround (in_form at f o)

data GoodPlaceAround : PlaceAround → Type 0 where
  good_place_end : GoodPlaceAround place_end
  good_in_field
      : {at : ℕ} {n : Bytes} {o : PlaceAround} → UTF8Octets n → GoodPlaceAround o → GoodPlaceAround (in_field at n o)
  good_in_result : {at : ℕ} {u : PlaceUse} {o : Around} → GoodAround o → GoodPlaceAround (in_result at u o)

data GoodWant : Want → Type 0 where
  good_place_open : {o : PlaceAround} → GoodPlaceAround o → GoodWant (place_open o)
  good_place_word : {at : ℕ} {o : PlaceAround} → GoodPlaceAround o → GoodWant (place_word at o)
  good_it_index : {at : ℕ} {o : PlaceAround} → GoodPlaceAround o → GoodWant (it_index at o)
  good_field_name : {at : ℕ} {o : PlaceAround} → GoodPlaceAround o → GoodWant (field_name at o)
  good_place_close : {p : Place} {o : PlaceAround} → GoodPlace p → GoodPlaceAround o → GoodWant (place_close p o)
  good_result_open : {o : Around} → GoodAround o → GoodWant (result_open o)
  good_result_word : {at : ℕ} {o : Around} → GoodAround o → GoodWant (result_word at o)
  good_when_test : {at : ℕ} {o : Around} → GoodAround o → GoodWant (when_test at o)
  good_num_number : {at : ℕ} {o : Around} → GoodAround o → GoodWant (num_number at o)
  good_str_text : {at : ℕ} {o : Around} → GoodAround o → GoodWant (str_text at o)
  good_pack_name : {at : ℕ} {ps : Pairs} {o : Around} → GoodPairs ps → GoodAround o → GoodWant (pack_name at ps o)
  good_result_close : {r : Result} {o : Around} → GoodReader r → GoodAround o → GoodWant (result_close r o)

data GoodState : State → Type 0 where
  good_want : {w : Want} → GoodWant w → GoodState (want w)
  good_whole_place : {p : Place} → GoodPlace p → GoodState (whole_place p)
  good_whole_result : {r : Result} → GoodReader r → GoodState (whole_result r)

-- ---- the steps keep states good

use_place_good : (at : ℕ) (u : PlaceUse) {p : Place} {o : Around} → GoodPlace p → GoodAround o → GoodWant (use_place at u p o)
unfolding use_place
use_place_good at (converts c) p o = good_result_close (good_convert p) o
use_place_good at keeps p o = good_result_close (good_keep p) o
use_place_good at counts p o = good_result_close (good_count p) o
use_place_good at maps p o = good_result_open (good_in_form (good_each_body p) o)
use_place_good at (tests k) p o = good_result_open (good_in_form (good_when_first p) o)

put_place_good : {p : Place} {o : PlaceAround} → GoodPlace p → GoodPlaceAround o → GoodState (put_place p o)
unfolding put_place
put_place_good p good_place_end = good_whole_place p
put_place_good p (good_in_field u o) = good_want (good_place_close (good_field_of u p) o)
put_place_good p (good_in_result {at} {u} o) = good_want (use_place_good at u p o)

use_result_good
    : (at : ℕ) {f : Frame} {r : Result} {o : Around} → GoodFrame f → GoodReader r → GoodAround o
    → GoodWant (use_result at f r o)
unfolding use_result
use_result_good at (good_each_body p) r o = good_result_close (good_each p r) o
use_result_good at (good_when_first p) r o = good_result_open (good_in_form (good_when_second p r) o)
use_result_good at (good_when_second p r₁) r o = good_result_close (good_when p r₁ r) o
use_result_good at good_if_first r o = good_result_open (good_in_form (good_if_second r) o)
use_result_good at (good_if_second r₁) r o = good_result_open (good_in_form (good_if_third r₁ r) o)
use_result_good at (good_if_third r₁ r₂) r o = good_result_close (good_choose r₁ r₂ r) o
use_result_good at (good_pack_part ps u) r o = good_pack_name (good_pair u r ps) o

put_result_good : {r : Result} {o : Around} → GoodReader r → GoodAround o → GoodState (put_result r o)
unfolding put_result
put_result_good r good_end = good_whole_result r
put_result_good r (good_in_form {at} f o) = good_want (use_result_good at f r o)

pairs_onto_good : {ps : Pairs} → GoodPairs ps → {qs : Pairs} → GoodPairs qs → GoodPairs (pairs_onto ps qs)
unfolding pairs_onto
pairs_onto_good good_no_pairs g = g
pairs_onto_good (good_pair u r ps) g = pairs_onto_good ps (good_pair u r g)

pack_step_good
    : (at : ℕ) {ps : Pairs} {o : Around} {t : Token} → GoodPairs ps → GoodAround o → GoodToken t
    → Leads GoodState (pack_step at ps o t)
unfolding pack_step
pack_step_good at ps o good_opening = leads_nowhere
pack_step_good at ps o good_closing = leads_on (put_result_good (good_pack (pairs_onto_good ps good_no_pairs)) o)
pack_step_good at {ps} g o (good_quoted {t = n} u) =
    where_true_leads (not (among_pairs n ps)) (leads_on (good_want (good_result_open (good_in_form (good_pack_part g u) o))))
pack_step_good at ps o good_word = leads_nowhere
pack_step_good at ps o good_broken = leads_nowhere

-- ---- words

-- K holds of what each word of the table stands for
data Rows {A : Type 0} (K : A → Type 0) : List (Named A) → Type 0 where
  no_rows : Rows K []
  row_then : {n : Bytes} {a : A} {rows : List (Named A)} → K a → Rows K rows → Rows K (named n a ∷ rows)

look_word_good
    : {A : Type 0} {K : A → Type 0} {rows : List (Named A)} → Rows K rows → (w : Bytes) (a : A) → look_word rows w ≡ some a → K a
unfolding look_word
look_word_good no_rows w a e = absurd (none-ne-some a e)
look_word_good {A} {K} (row_then {n} {a = b} {rows} k h) w a e = told (same w n) e (look_word_good h w a)
  where
    told
        : (c : Bool) → elim c as (λ x. Option A) [ true ↦ some b | false ↦ look_word rows w ] ≡ some a
        → (look_word rows w ≡ some a → K a) → K a
    told true i j = subst K (some-injective b a i) k
    told false i j = j i

ResultWord : (ℕ → Around → Want) → Type 0
ResultWord f = (at : ℕ) (o : Around) → GoodAround o → GoodWant (f at o)

PlaceWord : (ℕ → PlaceAround → Want) → Type 0
PlaceWord f = (at : ℕ) (o : PlaceAround) → GoodPlaceAround o → GoodWant (f at o)

place_words_good : Rows PlaceWord place_words
unfolding place_words PlaceWord
place_words_good = row_then (λ at o g. good_it_index g) (row_then (λ at o g. good_field_name g) no_rows)

result_words_good : Rows ResultWord result_words
unfolding result_words ResultWord
result_words_good =
    row_then (λ at o g. good_place_open (good_in_result g))
    (row_then (λ at o g. good_place_open (good_in_result g))
    (row_then (λ at o g. good_place_open (good_in_result g))
    (row_then (λ at o g. good_place_open (good_in_result g))
    (row_then (λ at o g. good_place_open (good_in_result g))
    (row_then (λ at o g. good_place_open (good_in_result g))
    (row_then (λ at o g. good_place_open (good_in_result g))
    (row_then (λ at o g. good_when_test g)
    (row_then (λ at o g. good_result_open (good_in_form good_if_first g))
    (row_then (λ at o g. good_num_number g)
    (row_then (λ at o g. good_str_text g)
    (row_then (λ at o g. good_result_close (good_literal good_bool) g)
    (row_then (λ at o g. good_result_close (good_literal good_bool) g)
    (row_then (λ at o g. good_result_close (good_literal good_null) g)
    (row_then (λ at o g. good_pack_name good_no_pairs g)
    no_rows))))))))))))))

-- a number that a word spells keeps the limits
word_number_fits : (w : Bytes) (d : Numeral) → word_number w ≡ some d → beyond d ≡ false
unfolding word_number
word_number_fits w d e = told (spelled begin no_digits w) e
  where
    inner_told : (c : Numeral) (b : Bool) → beyond c ≡ b → elim b as (λ x. Option Numeral) [ true ↦ none | false ↦ some c ] ≡ some d → beyond d ≡ false
    inner_told c true f i = absurd (none-ne-some d i)
    inner_told c false f i = subst (λ z. beyond z ≡ false) (some-injective c d i) f

    told
        : (o : Option Numeral)
        → elim o as (λ x. Option Numeral) [
          | none ↦ none
          | some c ↦ elim (beyond c) as (λ x. Option Numeral) [ true ↦ none | false ↦ some c ]
        ]
        ≡ some d
        → beyond d ≡ false
    told none i = absurd (none-ne-some d i)
    told (some c) i = inner_told c (beyond c) refl i

-- ---- the step

want_step_good : {w : Want} → GoodWant w → (t : Placed) → GoodToken t.token → Leads GoodState (want_step w t)
unfolding want_step want_named index_step literal_step PlaceWord ResultWord
want_step_good (good_place_open o) t k = want_open_leads k (leads_in (good_want (good_place_word o)))
want_step_good (good_place_word {at} {o} g) t k =
    want_word_leads _ k
    (λ w. where_some_leads (look_word place_words w) _
    (λ f e. leads_on (good_want (look_word_good place_words_good w f e at o g))))
want_step_good (good_it_index {at} {o} g) t k =
    want_word_leads _ k
    (λ w. where_some_leads (word_number w) _
    (λ d e. where_true_leads (index_fits (place_bindings o) d) (leads_on (good_want (good_place_close good_it g)))))
want_step_good (good_field_name o) t k = want_text_leads _ k (λ n u. leads_on (good_want (good_place_open (good_in_field u o))))
want_step_good (good_place_close p o) t k = want_close_leads k (leads_on (put_place_good p o))
want_step_good (good_result_open o) t k = want_open_leads k (leads_in (good_want (good_result_word o)))
want_step_good (good_result_word {at} {o} g) t k =
    want_word_leads _ k
    (λ w. where_some_leads (look_word result_words w) _
    (λ f e. leads_on (good_want (look_word_good result_words_good w f e at o g))))
want_step_good (good_when_test o) t k =
    want_word_leads _ k
    (λ w. where_some_leads (look_word test_words w) _ (λ f e. leads_on (good_want (good_place_open (good_in_result o)))))
want_step_good (good_num_number o) t k =
    want_word_leads _ k
    (λ w. where_some_leads (word_number w) _
    (λ d e. leads_on (good_want (good_result_close (good_literal (good_number (number_good d (word_number_fits w d e)))) o))))
want_step_good (good_str_text o) t k =
    want_text_leads _ k (λ n u. leads_on (good_want (good_result_close (good_literal (good_text u)) o)))
want_step_good (good_pack_name {at} ps o) t k = pack_step_good at ps o k
want_step_good (good_result_close r o) t k = want_close_leads k (leads_on (put_result_good r o))

step_good : (q : State) → GoodState q → (t : Placed) → GoodToken t.token → Leads GoodState (step q t)
unfolding step
step_good (want w) (good_want g) t k = want_step_good g t k
step_good (whole_place p) (good_whole_place g) t k = leads_nowhere
step_good (whole_result r) (good_whole_result g) t k = leads_nowhere

finished_good : (q : State) → GoodState q → (r : Result) → finished_result q ≡ some r → GoodReader r
unfolding finished_result
finished_good (want w) (good_want g) r e = absurd (none-ne-some r e)
finished_good (whole_place p) (good_whole_place g) r e = absurd (none-ne-some r e)
finished_good (whole_result t) (good_whole_result g) r e = subst GoodReader (some-injective t r e) g

read_result_gives : (l : Limits) (end : ℕ) {ts : List Placed} → GoodTokens ts → Gives GoodReader (read_result l end ts)
unfolding read_result empty_reader
read_result_gives l end good_no_tokens = gives_ok (good_literal good_null)
read_result_gives l end (good_then g gs) =
    tokens_give GoodState GoodReader step finished_result step_good finished_good l 0 end (want (result_open text_end))
    (good_want (good_result_open good_end)) (good_then g gs)

-- a reader that was read is good
pub reader_read_good : (l : Limits) (s : Bytes) (r : Result) → read_reader l s ≡ ok r → GoodReader r
unfolding read_reader
reader_read_good l s r e = gives_holds e (read_result_gives l (length s) (tokens_good s))
