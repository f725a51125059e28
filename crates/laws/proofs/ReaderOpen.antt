-- The forms that are open in each state of reading a reader are those that its brackets open. Assumes nothing.
use Rattle.std.specs.Prelude.{ℕ, suc, pred, ◌≡◌, refl, true, not, List, [], length}
use Rattle.std.proofs.Common.{sym, ◌∙◌, ap, arith}
use Rattle.definitions.specs.Bytes.{Bytes}
use Rattle.definitions.specs.Number.{number_of}
use Rattle.definitions.specs.Value.{Value}
use Rattle.definitions.specs.Reader.{Place, Result, Pairs, no_pairs, each_body, when_first, when_second, if_first, if_second, if_third}
use Rattle.definitions.specs.Reader.{pack_part, Around, text_end, in_form, converts, keeps, counts, maps, tests, PlaceAround, place_end}
use Rattle.definitions.specs.Reader.{in_field, in_result, place_open, place_word, it_index, field_name, place_close, result_open, result_word}
use Rattle.definitions.specs.Reader.{when_test, num_number, str_text, pack_name, result_close, State, want, whole_place, whole_result, use_place}
use Rattle.definitions.specs.Reader.{put_place, use_result, put_result, depth, place_depth, place_bindings, word_number, index_fits, among_pairs}
use Rattle.definitions.specs.Reader.{pairs_onto, test_words, place_words, result_words, index_step, literal_step, pack_step, want_step, step}
use Rattle.definitions.specs.Tokens.{Token, opening, closing, quoted, word, broken, Placed, go, opens, where_some}
use Rattle.laws.specs.FormRuns.{Walk, stay, on, enter}
use Rattle.laws.proofs.FormSteps.{Each, Says, open_says, close_says, text_says, word_says, true_says, some_says, named_says, says_go, says_opens}
use Rattle.laws.specs.FormCauses.{form_begun, forms_begun, forms_after, forms_open}
use Rattle.laws.proofs.ReaderLive.{root_around, root}

-- ---- the forms that are open in a state

unfoldable pub open_in : State → ℕ
open_in (whole_place p) = 0
open_in (whole_result r) = 0
open_in (want (place_open o)) = place_depth o
open_in (want (place_word x o)) = suc (place_depth o)
open_in (want (it_index x o)) = suc (place_depth o)
open_in (want (field_name x o)) = suc (place_depth o)
open_in (want (place_close p o)) = suc (place_depth o)
open_in (want (result_open o)) = depth o
open_in (want (result_word x o)) = suc (depth o)
open_in (want (when_test x o)) = suc (depth o)
open_in (want (num_number x o)) = suc (depth o)
open_in (want (str_text x o)) = suc (depth o)
open_in (want (pack_name x ps o)) = suc (depth o)
open_in (want (result_close r o)) = suc (depth o)

put_open : (r : Result) (o : Around) → open_in (put_result r o) ≡ depth o
unfolding open_in put_result use_result depth
put_open r text_end = refl
put_open r (in_form x (each_body p) o) = refl
put_open r (in_form x (when_first t p) o) = refl
put_open r (in_form x (when_second t p r₁) o) = refl
put_open r (in_form x if_first o) = refl
put_open r (in_form x (if_second r₁) o) = refl
put_open r (in_form x (if_third r₁ r₂) o) = refl
put_open r (in_form x (pack_part ps n) o) = refl

put_root : (r : Result) (o : Around) → root (put_result r o) ≡ true
unfolding root put_result use_result
put_root r text_end = refl
put_root r (in_form x (each_body p) o) = refl
put_root r (in_form x (when_first t p) o) = refl
put_root r (in_form x (when_second t p r₁) o) = refl
put_root r (in_form x if_first o) = refl
put_root r (in_form x (if_second r₁) o) = refl
put_root r (in_form x (if_third r₁ r₂) o) = refl
put_root r (in_form x (pack_part ps n) o) = refl

place_put_open : (p : Place) (o : PlaceAround) → open_in (put_place p o) ≡ place_depth o
unfolding open_in put_place use_place place_depth depth
place_put_open p place_end = refl
place_put_open p (in_field x n o) = refl
place_put_open p (in_result x (converts c) o) = refl
place_put_open p (in_result x keeps o) = refl
place_put_open p (in_result x counts o) = refl
place_put_open p (in_result x maps o) = refl
place_put_open p (in_result x (tests t) o) = refl

place_put_root : (p : Place) (o : PlaceAround) → root (put_place p o) ≡ root_around o
unfolding root root_around put_place use_place
place_put_root p place_end = refl
place_put_root p (in_field x n o) = refl
place_put_root p (in_result x (converts c) o) = refl
place_put_root p (in_result x keeps o) = refl
place_put_root p (in_result x counts o) = refl
place_put_root p (in_result x maps o) = refl
place_put_root p (in_result x (tests t) o) = refl

-- what a token that leads on does to the forms that are open: a bracket always opens one
pub record Goes (q : State) (k : Token) (r : State) : Type 0 where
  still_open : open_in r ≡ forms_after k (open_in q)
  pub no_bracket : form_begun k ≡ 0
  same_root : root r ≡ root q

pub record Enters (q : State) (k : Token) (d : ℕ) (r : State) : Type 0 where
  pub is_bracket : k ≡ opening
  pub at_depth : d ≡ suc (open_in q)
  now_open : open_in r ≡ d
  same_root : root r ≡ root q

-- a token that opens and closes none
goes_word : (q r : State) (w : Bytes) → open_in r ≡ open_in q → root r ≡ root q → Goes q (word w) r
unfolding forms_after form_begun
goes_word q r w a b = record { still_open = a; no_bracket = refl; same_root = b }

goes_text : (q r : State) (t : Bytes) → open_in r ≡ open_in q → root r ≡ root q → Goes q (quoted t) r
unfolding forms_after form_begun
goes_text q r t a b = record { still_open = a; no_bracket = refl; same_root = b }

goes_closing : (q r : State) → suc (open_in r) ≡ open_in q → root r ≡ root q → Goes q closing r
unfolding forms_after form_begun
goes_closing q r a b = record { still_open = let z : open_in r ≡ pred (open_in q) = omega arith in z; no_bracket = refl; same_root = b }

enters : (q r : State) → open_in r ≡ suc (open_in q) → root r ≡ root q → Enters q opening (suc (open_in q)) r
enters q r a b = record { is_bracket = refl; at_depth = refl; now_open = a; same_root = b }

pack_says
    : (x : ℕ) (ps : Pairs) (o : Around) (k : Token)
    → Says (Goes (want (pack_name x ps o))) (Enters (want (pack_name x ps o))) k (pack_step x ps o k)
unfolding pack_step open_in root depth
pack_says x ps o opening = tt
pack_says x ps o closing =
    let r = Result.pack x (pairs_onto ps no_pairs) in
    goes_closing (want (pack_name x ps o)) (put_result r o) (ap suc (put_open r o)) (put_root r o)
pack_says x ps o (quoted n) =
    true_says
    (Goes (want (pack_name x ps o)))
    (Enters (want (pack_name x ps o)))
    (quoted n)
    (not (among_pairs n ps))
    (go (want (result_open (in_form x (pack_part ps n) o))))
    (goes_text (want (pack_name x ps o)) (want (result_open (in_form x (pack_part ps n) o))) n refl refl)
pack_says x ps o (word w) = tt
pack_says x ps o broken = tt

pub step_says : (q : State) (t : Placed) → Says (Goes q) (Enters q) t.token (step q t)
unfolding step want_step place_words result_words test_words index_step literal_step open_in root root_around depth place_depth
step_says (whole_place p) t = tt
step_says (whole_result r) t = tt
step_says (want (place_open o)) t =
    let q = want (place_open o) in
    let r = want (place_word t.at o) in
    open_says (Goes q) (Enters q) (opens (suc (place_depth o)) r) (enters q r refl refl) t.token
step_says (want (place_word x o)) t =
    let q = want (place_word x o) in
    named_says
    (Goes q)
    (Enters q)
    place_words
    (λ f. go (want (f x o)))
    (goes_word q (want (it_index x o)) _ refl refl, (goes_word q (want (field_name x o)) _ refl refl, tt))
    t.token
step_says (want (it_index x o)) t =
    let q = want (it_index x o) in
    word_says
    (Goes q)
    (Enters q)
    (λ w. where_some (word_number w) (λ d. index_step x o d))
    (λ w.
    some_says
    (Goes q)
    (Enters q)
    (word w)
    (word_number w)
    (λ d. index_step x o d)
    (λ d e.
    let r = want (place_close (Place.it x d.coefficient) o) in
    true_says (Goes q) (Enters q) (word w) (index_fits (place_bindings o) d) (go r) (goes_word q r w refl refl)))
    t.token
step_says (want (field_name x o)) t =
    let q = want (field_name x o) in
    text_says
    (Goes q)
    (Enters q)
    (λ n. go (want (place_open (in_field x n o))))
    (λ n. goes_text q (want (place_open (in_field x n o))) n refl refl)
    t.token
step_says (want (place_close p o)) t =
    let q = want (place_close p o) in
    close_says
    (Goes q)
    (Enters q)
    (go (put_place p o))
    (goes_closing q (put_place p o) (ap suc (place_put_open p o)) (place_put_root p o))
    t.token
step_says (want (result_open o)) t =
    let q = want (result_open o) in
    let r = want (result_word t.at o) in
    open_says (Goes q) (Enters q) (opens (suc (depth o)) r) (enters q r refl refl) t.token
step_says (want (result_word x o)) t =
    named_says (Goes q) (Enters q) result_words (λ f. go (want (f x o))) rows t.token
  where
    q : State
    q = want (result_word x o)

    rows : Each (λ w f. Says (Goes q) (Enters q) (word w) (go (want (f x o)))) result_words
    rows = (
      goes_word q _ _ refl refl,
      (
        goes_word q _ _ refl refl,
        (
          goes_word q _ _ refl refl,
          (
            goes_word q _ _ refl refl,
            (
              goes_word q _ _ refl refl,
              (
                goes_word q _ _ refl refl,
                (
                  goes_word q _ _ refl refl,
                  (
                    goes_word q _ _ refl refl,
                    (
                      goes_word q _ _ refl refl,
                      (
                        goes_word q _ _ refl refl,
                        (
                          goes_word q _ _ refl refl,
                          (goes_word q _ _ refl refl, (goes_word q _ _ refl refl, (goes_word q _ _ refl refl, (goes_word q _ _ refl refl, tt)))),
                        ),
                      ),
                    ),
                  ),
                ),
              ),
            ),
          ),
        ),
      ),
    )
step_says (want (when_test x o)) t =
    named_says (Goes q) (Enters q) test_words (λ k. go (want (place_open (in_result x (tests k) o)))) rows t.token
  where
    q : State
    q = want (when_test x o)

    rows : Each (λ w k. Says (Goes q) (Enters q) (word w) (go (want (place_open (in_result x (tests k) o))))) test_words
    rows = (
      goes_word q _ _ refl refl,
      (
        goes_word q _ _ refl refl,
        (
          goes_word q _ _ refl refl,
          (goes_word q _ _ refl refl, (goes_word q _ _ refl refl, (goes_word q _ _ refl refl, (goes_word q _ _ refl refl, tt)))),
        ),
      ),
    )
step_says (want (num_number x o)) t =
    let q = want (num_number x o) in
    word_says
    (Goes q)
    (Enters q)
    (λ w. where_some (word_number w) (λ d. literal_step x o (Value.number (number_of d))))
    (λ w.
    some_says
    (Goes q)
    (Enters q)
    (word w)
    (word_number w)
    (λ d. literal_step x o (Value.number (number_of d)))
    (λ d e. goes_word q (want (result_close (Result.literal x (Value.number (number_of d))) o)) w refl refl))
    t.token
step_says (want (str_text x o)) t =
    let q = want (str_text x o) in
    text_says
    (Goes q)
    (Enters q)
    (λ s. literal_step x o (Value.text s))
    (λ s. goes_text q (want (result_close (Result.literal x (Value.text s)) o)) s refl refl)
    t.token
step_says (want (pack_name x ps o)) t = pack_says x ps o t.token
step_says (want (result_close r o)) t =
    let q = want (result_close r o) in
    close_says
    (Goes q)
    (Enters q)
    (go (put_result r o))
    (goes_closing q (put_result r o) (ap suc (put_open r o)) (put_root r o))
    t.token

-- ---- along walks

pub walk_open
    : {q r : State} {ts us : List Placed} {ds : List ℕ} → Walk step q ts ds r us → us ≡ [] → open_in r ≡ forms_open (open_in q) ts
unfolding forms_open forms_after
walk_open stay e = rw e
walk_open (on {q = q} {t = t} {ts = ts} e w) i =
    walk_open w i ∙ ap (λ n. forms_open n ts) (says_go (Goes q) (Enters q) (step_says q t) e).still_open
walk_open (enter {q = q} {t = t} {ts = ts} e w) i =
    let h = says_opens (Goes q) (Enters q) (step_says q t) e in
    walk_open w i
    ∙ ap (λ n. forms_open n ts) (h.now_open ∙ h.at_depth ∙ ap (λ k. forms_after k (open_in q)) (sym h.is_bracket))

pub walk_begun : {q r : State} {ts us : List Placed} {ds : List ℕ} → Walk step q ts ds r us → us ≡ [] → length ds ≡ forms_begun ts
unfolding forms_begun form_begun
walk_begun stay e = rw e
walk_begun (on {q = q} {t = t} e w) i =
    let h = walk_begun w i in
    let j = (says_go (Goes q) (Enters q) (step_says q t) e).no_bracket in
    omega arith
walk_begun (enter {q = q} {t = t} e w) i =
    let h = walk_begun w i in
    let j = ap form_begun (says_opens (Goes q) (Enters q) (step_says q t) e).is_bracket in
    omega arith

pub walk_root : {q r : State} {ts us : List Placed} {ds : List ℕ} → Walk step q ts ds r us → root r ≡ root q
walk_root stay = refl
walk_root (on {q = q} {t = t} e w) = walk_root w ∙ (says_go (Goes q) (Enters q) (step_says q t) e).same_root
walk_root (enter {q = q} {t = t} e w) = walk_root w ∙ (says_opens (Goes q) (Enters q) (step_says q t) e).same_root
