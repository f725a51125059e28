-- What may come behind a token of a reader that leads on may come from that token on. So what is accepted is right.
-- Assumes nothing.
use Rattle.std.specs.Prelude.{ℕ, suc, ◌≡◌, refl, Bool, true, false, not, ◌&&◌, List, [], ◌∷◌, ltb, eqb}
use Rattle.std.proofs.Common.{◌∙◌, subst}
use Rattle.std.proofs.Math.Option.{Option, none, some, none-ne-some, some-injective}
use Rattle.definitions.specs.Bytes.{Bytes, same}
use Rattle.definitions.specs.Number.{Numeral, no_digits, beyond, number_of, begin, spelled}
use Rattle.definitions.specs.Value.{Value}
use Rattle.definitions.specs.Reader.{Place, Result, Pairs, no_pairs, pair, pack_part, Around, text_end, in_form, tests, place_end, in_field}
use Rattle.definitions.specs.Reader.{in_result, place_open, place_word, it_index, field_name, place_close, result_open, result_word, when_test}
use Rattle.definitions.specs.Reader.{num_number, str_text, pack_name, result_close, State, want, whole_place, whole_result, put_place, use_result}
use Rattle.definitions.specs.Reader.{put_result, depth, place_depth, binds, bindings, place_bindings, word_number, index_fits, among_pairs}
use Rattle.definitions.specs.Reader.{pairs_onto, test_words, place_words, result_words, index_step, literal_step, pack_step, want_step, step}
use Rattle.definitions.specs.Tokens.{Token, opening, closing, quoted, word, broken, Placed, go, opens, where_some}
use Rattle.laws.specs.Bools.{and_left, and_right, or_false_left, or_false_right, not_true}
use Rattle.laws.specs.Names.{same_sym}
use Rattle.laws.proofs.NumberWords.{spelled_number}
use Rattle.laws.specs.FormGrammar.{at, name, NumberWord, number_word, IndexWord, index_word, int_word, dec_word, bool_word, text_word, null_test}
use Rattle.laws.specs.FormGrammar.{bool_test, int_test, num_test, text_test, list_test, rec_test, PlaceForm, ResultForm, no_pair, next_pair}
use Rattle.laws.specs.Tests.{ltb_lt, eqb_eq}
use Rattle.laws.specs.FormRuns.{Walk, none_over}
use Rattle.laws.proofs.FormSteps.{Back, walk_back, open_back, close_back, text_back, word_back, true_back, some_back, named_back}
use Rattle.laws.proofs.ReaderRests.{Apart, Rest, rest_whole_place, rest_whole_result, rest_place, rest_index, rest_field}
use Rattle.laws.proofs.ReaderRests.{rest_place_close, rest_result, rest_test, rest_num, rest_str, rest_pack, rest_close, it_begins}
use Rattle.laws.proofs.ReaderRests.{field_begins, place_begins, convert_begins, keep_begins, count_begins, each_begins, when_begins}
use Rattle.laws.proofs.ReaderRests.{if_begins, num_begins, str_begins, yes_begins, no_begins, none_begins, pack_begins, result_begins}

-- ---- what a step does, from behind

apart_first : (n : Bytes) (r : Result) (ps qs : Pairs) → Apart (pair n r ps) qs → among_pairs n qs ≡ false
unfolding among_pairs
apart_first n r ps no_pairs a = refl
apart_first n r ps (pair m s qs) a =
    none_over (same_sym m n ∙ or_false_left (same m n) (among_pairs m ps) a.0) (apart_first n r ps qs a.1)

apart_rest : (n : Bytes) (r : Result) (ps qs : Pairs) → Apart (pair n r ps) qs → Apart ps qs
unfolding among_pairs
apart_rest n r ps no_pairs a = tt
apart_rest n r ps (pair m s qs) a = (or_false_right (same m n) (among_pairs m ps) a.0, apart_rest n r ps qs a.1)

pack_more
    : {o : Around} {n : Bytes} {r : Result} {ps : Pairs} {x y : ℕ} {z : State} {ts us : List Placed} → among_pairs n ps ≡ false
    → ResultForm (bindings o) ts r us → Rest (want (pack_name x (pair n r ps) o)) us z
    → Rest (want (pack_name x ps o)) (at y (quoted n) ∷ ts) z
unfolding pairs_onto
pack_more {n = n} {r} {ps} h f (rest_pack {qs = qs} g a t) =
    rest_pack (next_pair name f (apart_first n r ps qs a) g) (h, apart_rest n r ps qs a) t

pack_result
    : {o : Around} {n : Bytes} {ps : Pairs} {x y : ℕ} {z : State} {ts : List Placed} → among_pairs n ps ≡ false
    → Rest (want (result_open (in_form x (pack_part ps n) o))) ts z → Rest (want (pack_name x ps o)) (at y (quoted n) ∷ ts) z
unfolding put_result use_result bindings binds
pack_result h (rest_result f r) = pack_more h f r

pack_back
    : (x : ℕ) (ps : Pairs) (o : Around) (y : ℕ) (k : Token) (ts : List Placed) (z : State)
    → Back (λ r. Rest r ts z) (pack_step x ps o k) → Rest (want (pack_name x ps o)) (at y k ∷ ts) z
unfolding pack_step
pack_back x ps o y opening ts z b = absurd b
pack_back x ps o y closing ts z b = rest_pack no_pair tt b
pack_back x ps o y (quoted n) ts z b =
    true_back
    (λ r. Rest r ts z)
    (not (among_pairs n ps))
    (go (want (result_open (in_form x (pack_part ps n) o))))
    (λ h r. pack_result (not_true (among_pairs n ps) h) r)
    b
pack_back x ps o y (word w) ts z b = absurd b
pack_back x ps o y broken ts z b = absurd b

-- a word that is read as a number is a number word
pub number_read : (w : Bytes) (d : Numeral) → word_number w ≡ some d → NumberWord w d
unfolding word_number
number_read w d e = by_spelled (spelled begin no_digits w) refl e
  where
    by_beyond
        : (f : Numeral) → spelled begin no_digits w ≡ some f → (b : Bool) → beyond f ≡ b
        → Path (Option Numeral) (elim b [ true ↦ none | false ↦ some f ]) (some d) → NumberWord w d
    by_beyond f g true h e = absurd (none-ne-some d e)
    by_beyond f g false h e =
        subst (NumberWord w) (some-injective f d e) (number_word (spelled_number w f g) h)

    by_spelled
        : (o : Option Numeral) → spelled begin no_digits w ≡ o
        → Path (Option Numeral) (elim o [ none ↦ none | some f ↦ elim (beyond f) [ true ↦ none | false ↦ some f ] ]) (some d)
        → NumberWord w d
    by_spelled none g e = absurd (none-ne-some d e)
    by_spelled (some f) g e = by_beyond f g (beyond f) refl e

pub index_read : (k : ℕ) (w : Bytes) (d : Numeral) → NumberWord w d → index_fits k d ≡ true → IndexWord k w d.coefficient
unfolding index_fits
index_read k w d n h =
    let a = not d.negative in
    let b = eqb d.scale 0 in
    let c = ltb d.coefficient k in
    index_word
    n
    (not_true d.negative (and_left a b (and_left (a && b) c h)))
    (eqb_eq (and_right a b (and_left (a && b) c h)))
    (ltb_lt d.coefficient k (and_right (a && b) c h))

-- what may come behind a token that leads on may come from that token on
step_back : (q : State) (t : Placed) (ts : List Placed) (z : State) → Back (λ r. Rest r ts z) (step q t) → Rest q (t ∷ ts) z
unfolding step want_step place_words result_words test_words index_step literal_step
step_back (whole_place p) t ts z b = absurd b
step_back (whole_result r) t ts z b = absurd b
step_back (want (place_open o)) t ts z b =
    open_back
    (λ r. Rest r ts z)
    (λ k. Rest (want (place_open o)) (at t.at k ∷ ts) z)
    (opens (suc (place_depth o)) (want (place_word t.at o)))
    place_begins
    t.token
    b
step_back (want (place_word x o)) t ts z b =
    named_back
    (λ r. Rest r ts z)
    (λ k. Rest (want (place_word x o)) (at t.at k ∷ ts) z)
    place_words
    (λ f. go (want (f x o)))
    (it_begins, (field_begins, tt))
    t.token
    b
step_back (want (it_index x o)) t ts z b =
    word_back
    (λ r. Rest r ts z)
    (λ k. Rest (want (it_index x o)) (at t.at k ∷ ts) z)
    (λ w. where_some (word_number w) (λ d. index_step x o d))
    (λ w.
    some_back
    (λ r. Rest r ts z)
    (word_number w)
    (λ d. index_step x o d)
    (λ d e.
    true_back
    (λ r. Rest r ts z)
    (index_fits (place_bindings o) d)
    (go (want (place_close (Place.it x d.coefficient) o)))
    (λ h r. rest_index (index_read (place_bindings o) w d (number_read w d e) h) r)))
    t.token
    b
step_back (want (field_name x o)) t ts z b =
    text_back
    (λ r. Rest r ts z)
    (λ k. Rest (want (field_name x o)) (at t.at k ∷ ts) z)
    (λ n. go (want (place_open (in_field x n o))))
    (λ n. rest_field)
    t.token
    b
step_back (want (place_close p o)) t ts z b =
    close_back
    (λ r. Rest r ts z)
    (λ k. Rest (want (place_close p o)) (at t.at k ∷ ts) z)
    (go (put_place p o))
    rest_place_close
    t.token
    b
step_back (want (result_open o)) t ts z b =
    open_back
    (λ r. Rest r ts z)
    (λ k. Rest (want (result_open o)) (at t.at k ∷ ts) z)
    (opens (suc (depth o)) (want (result_word t.at o)))
    result_begins
    t.token
    b
step_back (want (result_word x o)) t ts z b =
    named_back
    (λ r. Rest r ts z)
    (λ k. Rest (want (result_word x o)) (at t.at k ∷ ts) z)
    result_words
    (λ f. go (want (f x o))) (
      convert_begins int_word,
      (
        convert_begins dec_word,
        (
          convert_begins bool_word,
          (
            convert_begins text_word,
            (
              keep_begins,
              (
                count_begins,
                (each_begins, (when_begins, (if_begins, (num_begins, (str_begins, (yes_begins, (no_begins, (none_begins, (pack_begins, tt))))))))),
              ),
            ),
          ),
        ),
      ),
    )
    t.token
    b
step_back (want (when_test x o)) t ts z b =
    named_back
    (λ r. Rest r ts z)
    (λ k. Rest (want (when_test x o)) (at t.at k ∷ ts) z)
    test_words
    (λ k. go (want (place_open (in_result x (tests k) o)))) (
      rest_test null_test,
      (rest_test bool_test, (rest_test int_test, (rest_test num_test, (rest_test text_test, (rest_test list_test, (rest_test rec_test, tt)))))),
    )
    t.token
    b
step_back (want (num_number x o)) t ts z b =
    word_back
    (λ r. Rest r ts z)
    (λ k. Rest (want (num_number x o)) (at t.at k ∷ ts) z)
    (λ w. where_some (word_number w) (λ d. literal_step x o (Value.number (number_of d))))
    (λ w.
    some_back
    (λ r. Rest r ts z)
    (word_number w)
    (λ d. literal_step x o (Value.number (number_of d)))
    (λ d e r. rest_num (number_read w d e) r))
    t.token
    b
step_back (want (str_text x o)) t ts z b =
    text_back
    (λ r. Rest r ts z)
    (λ k. Rest (want (str_text x o)) (at t.at k ∷ ts) z)
    (λ s. literal_step x o (Value.text s))
    (λ s. rest_str)
    t.token
    b
step_back (want (pack_name x ps o)) t ts z b = pack_back x ps o t.at t.token ts z b
step_back (want (result_close r o)) t ts z b =
    close_back
    (λ r. Rest r ts z)
    (λ k. Rest (want (result_close r o)) (at t.at k ∷ ts) z)
    (go (put_result r o))
    rest_close
    t.token
    b

-- ---- walks to a whole text

-- a walk from the start to a whole reader is over a right text
pub walk_right
    : {r : Result} {ts : List Placed} {ds : List ℕ} → Walk step (want (result_open text_end)) ts ds (whole_result r) []
    → ResultForm 1 ts r []
unfolding put_result bindings
walk_right {r} w =
    from_start (walk_back (λ q ts. Rest q ts (whole_result r)) (λ q t ts. step_back q t ts (whole_result r)) w rest_whole_result)
  where
    at_whole
        : {s a : Result} {ts us : List Placed} → ResultForm 1 ts s us → Rest (whole_result s) us (whole_result a)
        → ResultForm 1 ts a []
    at_whole f rest_whole_result = f

    from_start : {a : Result} {ts : List Placed} → Rest (want (result_open text_end)) ts (whole_result a) → ResultForm 1 ts a []
    from_start (rest_result f r) = at_whole f r

pub place_right
    : {p : Place} {ts : List Placed} {ds : List ℕ} → Walk step (want (place_open place_end)) ts ds (whole_place p) []
    → PlaceForm 1 ts p []
unfolding put_place place_bindings
place_right {p} w =
    from_start (walk_back (λ q ts. Rest q ts (whole_place p)) (λ q t ts. step_back q t ts (whole_place p)) w rest_whole_place)
  where
    at_whole
        : {s a : Place} {ts us : List Placed} → PlaceForm 1 ts s us → Rest (whole_place s) us (whole_place a) → PlaceForm 1 ts a []
    at_whole f rest_whole_place = f

    from_start : {a : Place} {ts : List Placed} → Rest (want (place_open place_end)) ts (whole_place a) → PlaceForm 1 ts a []
    from_start (rest_place f r) = at_whole f r
