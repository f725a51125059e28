-- Words of readers, looked up. Assumes nothing.
use Prim.Native.Nat.{ℕ, ◌≤◌}
use mathlib.Core.Path.{◌≡◌, refl, sym, ap, ◌∙◌, subst}
use mathlib.Core.Bool.{true, false}
use mathlib.Core.List.{List, [], ◌∷◌}
use mathlib.Core.Option.{Option, none, some}
use Rattle.std.specs.Prelude as std
use Rattle.std.specs.Prelude.{Some, None}
use native.Mathlib.Omega.{arith}
use lib.ListN.{length}
use Rattle.definitions.specs.Bytes.{Bytes, bytes, order, same}
use Rattle.definitions.specs.Tokens.{Named, named, look_word}
use Rattle.definitions.specs.Value.{Value}
use Rattle.definitions.specs.Reader.{to_int, to_dec, to_bool, to_text, Test, Result, no_pairs, if_first, Around, in_form, converts, keeps}
use Rattle.definitions.specs.Reader.{counts, maps, in_result, Want, place_open, it_index, field_name, result_open, when_test, num_number}
use Rattle.definitions.specs.Reader.{str_text, pack_name, result_close, test_words, place_words, result_words}
use Rattle.forms.specs.Forms.{conversion_code, test_code}
use Rattle.form_reader.specs.FormWords.{test_or_none, PlaceSays, says_it, says_field, says_no_place, use_code, Started, starts_use}
use Rattle.form_reader.specs.FormWords.{starts_when, starts_if, starts_num, starts_str, starts_yes, starts_no, starts_none, starts_pack}
use Rattle.form_reader.specs.FormWords.{ResultSays, says_result, says_no_result}

-- ---- a table

-- what looking w up gives: it is this word, or not that of the first row, or none
pub data Looks {A : Type 0} (w : Bytes) : List (Named A) → Option A → Type 0 where
  spelled
      : {rows : List (Named A)} {o : Option A} (n : Bytes) → w ≡ n → look_word rows n ≡ o → Looks w rows o
  past
      : {n : Bytes} {a : A} {rows : List (Named A)} {o : Option A} → same w n ≡ false → Looks w rows o
      → Looks w (named n a ∷ rows) o
  at_end : Looks w [] none
  found_as : {rows : List (Named A)} {o : Option A} → look_word rows w ≡ o → Looks w rows o

pub looked : {A : Type 0} {w : Bytes} {rows : List (Named A)} {o : Option A} → Looks w rows o → look_word rows w ≡ o
unfolding look_word
looked {w} {rows} (spelled n e f) = ap (look_word rows) e ∙ f
looked (past e l) = rw (e, look_word) (looked l)
looked at_end = refl
looked (found_as e) = e

-- ---- K

module _ (w : Bytes) where
  test_row : {t : Test} (n : Bytes) → look_word test_words n ≡ some t → w ≡ n → Some (test_code t) ≡ test_or_none (look_word test_words w)
  unfolding test_or_none
  test_row n f e = sym (ap test_or_none (looked (spelled n e f)))

  pub null_told : w ≡ bytes "null" → Some 0 ≡ test_or_none (look_word test_words w)
  unfolding look_word test_words bytes same order test_code
  null_told e = test_row {t = Test.null} (bytes "null") refl e

  pub bool_told : w ≡ bytes "bool" → Some 1 ≡ test_or_none (look_word test_words w)
  unfolding look_word test_words bytes same order test_code
  bool_told e = test_row {t = Test.bool} (bytes "bool") refl e

  pub int_told : w ≡ bytes "int" → Some 2 ≡ test_or_none (look_word test_words w)
  unfolding look_word test_words bytes same order test_code
  int_told e = test_row {t = Test.int} (bytes "int") refl e

  pub num_told : w ≡ bytes "num" → Some 3 ≡ test_or_none (look_word test_words w)
  unfolding look_word test_words bytes same order test_code
  num_told e = test_row {t = Test.num} (bytes "num") refl e

  pub text_told : w ≡ bytes "text" → Some 4 ≡ test_or_none (look_word test_words w)
  unfolding look_word test_words bytes same order test_code
  text_told e = test_row {t = Test.text} (bytes "text") refl e

  pub list_told : w ≡ bytes "list" → Some 5 ≡ test_or_none (look_word test_words w)
  unfolding look_word test_words bytes same order test_code
  list_told e = test_row {t = Test.list} (bytes "list") refl e

  pub rec_told : w ≡ bytes "rec" → Some 6 ≡ test_or_none (look_word test_words w)
  unfolding look_word test_words bytes same order test_code
  rec_told e = test_row {t = Test.rec} (bytes "rec") refl e

  pub no_test_told
      : same w (bytes "null") ≡ false → same w (bytes "bool") ≡ false → same w (bytes "int") ≡ false → same w (bytes "num") ≡ false
      → same w (bytes "text") ≡ false → same w (bytes "list") ≡ false → same w (bytes "rec") ≡ false
      → None ≡ test_or_none (look_word test_words w)
  unfolding test_or_none test_words
  no_test_told a b c d e f g =
      sym (ap test_or_none (looked (past a (past b (past c (past d (past e (past f (past g at_end)))))))))

-- ---- places

it_row : look_word place_words (bytes "it") ≡ some (λ at o. it_index at o)
unfolding look_word place_words bytes same order
it_row = refl

pub it_told : (w : Bytes) → w ≡ bytes "it" → PlaceSays w (Some 1)
it_told w e = says_it (looked (spelled (bytes "it") e it_row))

field_row : look_word place_words (bytes "field") ≡ some (λ at o. field_name at o)
unfolding look_word place_words bytes same order
field_row = refl

pub field_told : (w : Bytes) → w ≡ bytes "field" → PlaceSays w (Some 2)
field_told w e = says_field (looked (spelled (bytes "field") e field_row))

no_place_row : {w : Bytes} → same w (bytes "it") ≡ false → same w (bytes "field") ≡ false → Looks w place_words none
unfolding place_words
no_place_row e f = past e (past f at_end)

pub no_place_told : (w : Bytes) → same w (bytes "it") ≡ false → same w (bytes "field") ≡ false → PlaceSays w None
no_place_told w e f = says_no_place (looked (no_place_row e f))

-- ---- results

int_row : look_word result_words (bytes "int") ≡ some (λ at o. place_open (in_result at (converts to_int) o))
unfolding look_word result_words bytes same order
int_row = refl

dec_row : look_word result_words (bytes "dec") ≡ some (λ at o. place_open (in_result at (converts to_dec) o))
unfolding look_word result_words bytes same order
dec_row = refl

bool_row : look_word result_words (bytes "bool") ≡ some (λ at o. place_open (in_result at (converts to_bool) o))
unfolding look_word result_words bytes same order
bool_row = refl

text_row : look_word result_words (bytes "text") ≡ some (λ at o. place_open (in_result at (converts to_text) o))
unfolding look_word result_words bytes same order
text_row = refl

keep_row : look_word result_words (bytes "keep") ≡ some (λ at o. place_open (in_result at keeps o))
unfolding look_word result_words bytes same order
keep_row = refl

count_row : look_word result_words (bytes "count") ≡ some (λ at o. place_open (in_result at counts o))
unfolding look_word result_words bytes same order
count_row = refl

each_row : look_word result_words (bytes "each") ≡ some (λ at o. place_open (in_result at maps o))
unfolding look_word result_words bytes same order
each_row = refl

when_row : look_word result_words (bytes "when") ≡ some (λ at o. when_test at o)
unfolding look_word result_words bytes same order
when_row = refl

if_row : look_word result_words (bytes "if") ≡ some (λ at o. result_open (in_form at if_first o))
unfolding look_word result_words bytes same order
if_row = refl

num_row : look_word result_words (bytes "num") ≡ some (λ at o. num_number at o)
unfolding look_word result_words bytes same order
num_row = refl

str_row : look_word result_words (bytes "str") ≡ some (λ at o. str_text at o)
unfolding look_word result_words bytes same order
str_row = refl

yes_row : look_word result_words (bytes "yes") ≡ some (λ at o. result_close (Result.literal at (Value.bool true)) o)
unfolding look_word result_words bytes same order
yes_row = refl

no_row : look_word result_words (bytes "no") ≡ some (λ at o. result_close (Result.literal at (Value.bool false)) o)
unfolding look_word result_words bytes same order
no_row = refl

none_row : look_word result_words (bytes "none") ≡ some (λ at o. result_close (Result.literal at Value.null) o)
unfolding look_word result_words bytes same order
none_row = refl

pack_row : look_word result_words (bytes "pack") ≡ some (λ at o. pack_name at no_pairs o)
unfolding look_word result_words bytes same order
pack_row = refl

module _ (w : Bytes) where
  -- any code but that of `str` tells no length
  other_length : {k : ℕ} → (k ≡ 13 → ⊥) → k ≡ 13 → 3 ≤ length w
  other_length h e = absurd (h e)

  pub int_says : w ≡ bytes "int" → ResultSays w (Some 3)
  unfolding use_code conversion_code
  int_says e =
      says_result (looked (spelled (bytes "int") e int_row)) (starts_use {u = converts to_int} (omega arith)) (other_length (λ i. omega arith))

  pub dec_says : w ≡ bytes "dec" → ResultSays w (Some 4)
  unfolding use_code conversion_code
  dec_says e =
      says_result (looked (spelled (bytes "dec") e dec_row)) (starts_use {u = converts to_dec} (omega arith)) (other_length (λ i. omega arith))

  pub bool_says : w ≡ bytes "bool" → ResultSays w (Some 5)
  unfolding use_code conversion_code
  bool_says e =
      says_result (looked (spelled (bytes "bool") e bool_row)) (starts_use {u = converts to_bool} (omega arith)) (other_length (λ i. omega arith))

  pub text_says : w ≡ bytes "text" → ResultSays w (Some 6)
  unfolding use_code conversion_code
  text_says e =
      says_result (looked (spelled (bytes "text") e text_row)) (starts_use {u = converts to_text} (omega arith)) (other_length (λ i. omega arith))

  pub keep_says : w ≡ bytes "keep" → ResultSays w (Some 7)
  unfolding use_code conversion_code
  keep_says e =
      says_result (looked (spelled (bytes "keep") e keep_row)) (starts_use {u = keeps} (omega arith)) (other_length (λ i. omega arith))

  pub count_says : w ≡ bytes "count" → ResultSays w (Some 8)
  unfolding use_code conversion_code
  count_says e =
      says_result (looked (spelled (bytes "count") e count_row)) (starts_use {u = counts} (omega arith)) (other_length (λ i. omega arith))

  pub each_says : w ≡ bytes "each" → ResultSays w (Some 9)
  unfolding use_code conversion_code
  each_says e =
      says_result (looked (spelled (bytes "each") e each_row)) (starts_use {u = maps} (omega arith)) (other_length (λ i. omega arith))

  pub when_says : w ≡ bytes "when" → ResultSays w (Some 10)
  when_says e = says_result (looked (spelled (bytes "when") e when_row)) starts_when (other_length (λ i. omega arith))

  pub if_says : w ≡ bytes "if" → ResultSays w (Some 11)
  if_says e = says_result (looked (spelled (bytes "if") e if_row)) starts_if (other_length (λ i. omega arith))

  pub num_says : w ≡ bytes "num" → ResultSays w (Some 12)
  num_says e = says_result (looked (spelled (bytes "num") e num_row)) starts_num (other_length (λ i. omega arith))

  pub str_says : w ≡ bytes "str" → ResultSays w (Some 13)
  unfolding bytes
  str_says e = says_result (looked (spelled (bytes "str") e str_row)) starts_str (λ i. omega (arith, ap length e))

  pub yes_says : w ≡ bytes "yes" → ResultSays w (Some 14)
  yes_says e = says_result (looked (spelled (bytes "yes") e yes_row)) starts_yes (other_length (λ i. omega arith))

  pub no_says : w ≡ bytes "no" → ResultSays w (Some 15)
  no_says e = says_result (looked (spelled (bytes "no") e no_row)) starts_no (other_length (λ i. omega arith))

  pub none_says : w ≡ bytes "none" → ResultSays w (Some 16)
  none_says e = says_result (looked (spelled (bytes "none") e none_row)) starts_none (other_length (λ i. omega arith))

  pub pack_says : w ≡ bytes "pack" → ResultSays w (Some 17)
  pack_says e = says_result (looked (spelled (bytes "pack") e pack_row)) starts_pack (other_length (λ i. omega arith))

  pub no_result_says
      : same w (bytes "int") ≡ false → same w (bytes "dec") ≡ false → same w (bytes "bool") ≡ false → same w (bytes "text") ≡ false
      → same w (bytes "keep") ≡ false → same w (bytes "count") ≡ false → same w (bytes "each") ≡ false → same w (bytes "when") ≡ false
      → same w (bytes "if") ≡ false → same w (bytes "num") ≡ false → same w (bytes "str") ≡ false → same w (bytes "yes") ≡ false
      → same w (bytes "no") ≡ false → same w (bytes "none") ≡ false → same w (bytes "pack") ≡ false
      → ResultSays w None
  unfolding result_words
  no_result_says e₁ e₂ e₃ e₄ e₅ e₆ e₇ e₈ e₉ e₁₀ e₁₁ e₁₂ e₁₃ e₁₄ e₁₅ =
      says_no_result
      (looked
      (past e₁ (past e₂ (past e₃ (past e₄ (past e₅ (past e₆ (past e₇ (past e₈
      (past e₉ (past e₁₀ (past e₁₁ (past e₁₂ (past e₁₃ (past e₁₄ (past e₁₅ at_end))))))))))))))))

-- a word that no result has
pub result_none : {w : Bytes} {k : std.Option ℕ} → ResultSays w k → k ≡ None → look_word result_words w ≡ none
result_none (says_result e s l) i = absurd (cc)
result_none (says_no_result e) i = e

-- a word that one has
pub record Known (w : Bytes) (k : ℕ) : Type 0 where
  pub behind : ℕ → Around → Want
  pub found : look_word result_words w ≡ some behind
  pub started : Started k behind
  pub longer : k ≡ 13 → 3 ≤ length w

pub result_some : {w : Bytes} {j : std.Option ℕ} {k : ℕ} → ResultSays w j → j ≡ Some k → Known w k
result_some {w} {j} {k} (says_result {k = m} {f} e s l) i =
    let same : m ≡ k = cc in
    record { behind = f; found = e; started = subst (λ (n : ℕ). Started n f) same s; longer = λ h. l (same ∙ h) }
result_some (says_no_result e) i = absurd (cc)
