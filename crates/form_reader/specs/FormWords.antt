-- The words of readers, as the code tells them apart. Assumes nothing.
use Rattle.std.specs.Prelude.{ℕ, ◌≤◌, ◌<◌, ◌≡◌, true, false, length}
use Rattle.std.specs.Prelude as std
use Rattle.std.specs.Prelude.{Some, None}
use Rattle.std.proofs.Math.Option.{Option, none, some}
use Rattle.definitions.specs.Bytes.{Bytes}
use Rattle.definitions.specs.Value.{Value}
use Rattle.definitions.specs.Tokens.{look_word}
use Rattle.definitions.specs.Reader.{it_index, field_name, Test, no_pairs, Around, in_form, if_first, PlaceUse}
use Rattle.definitions.specs.Reader.{converts, keeps, counts, maps, tests, in_result, Want, place_open, result_open, when_test, num_number, str_text}
use Rattle.definitions.specs.Reader.{pack_name, result_close, place_words, result_words, Result}
use Rattle.forms.specs.Forms.{conversion_code, test_code}

-- ---- K

-- the code of K, if there is one
unfoldable pub test_or_none : Option Test → std.Option ℕ
test_or_none none = None
test_or_none (some k) = Some (test_code k)

-- ---- places

-- what looking up the word of a place tells
pub data PlaceSays (w : Bytes) : std.Option ℕ → Type 0 where
  says_it : look_word place_words w ≡ some (λ at o. it_index at o) → PlaceSays w (Some 1)
  says_field : look_word place_words w ≡ some (λ at o. field_name at o) → PlaceSays w (Some 2)
  says_no_place : look_word place_words w ≡ none → PlaceSays w None

-- ---- results

-- the code of a result that has a place, and its operand
unfoldable pub use_code : PlaceUse → ℕ
use_code (converts c) = conversion_code c
use_code keeps = 7
use_code counts = 8
use_code maps = 9
use_code (tests k) = 10

unfoldable pub use_operand : PlaceUse → ℕ
use_operand (converts c) = 0
use_operand keeps = 0
use_operand counts = 0
use_operand maps = 0
use_operand (tests k) = test_code k

-- what comes behind the word of a result of a code
pub data Started : ℕ → (ℕ → Around → Want) → Type 0 where
  starts_use : {u : PlaceUse} → use_code u < 10 → Started (use_code u) (λ at o. place_open (in_result at u o))
  starts_when : Started 10 (λ at o. when_test at o)
  starts_if : Started 11 (λ at o. result_open (in_form at if_first o))
  starts_num : Started 12 (λ at o. num_number at o)
  starts_str : Started 13 (λ at o. str_text at o)
  starts_yes : Started 14 (λ at o. result_close (Result.literal at (Value.bool true)) o)
  starts_no : Started 15 (λ at o. result_close (Result.literal at (Value.bool false)) o)
  starts_none : Started 16 (λ at o. result_close (Result.literal at Value.null) o)
  starts_pack : Started 17 (λ at o. pack_name at no_pairs o)

-- what looking up the word of a result tells
pub data ResultSays (w : Bytes) : std.Option ℕ → Type 0 where
  -- a `str` has as many bytes
  says_result
      : {k : ℕ} {f : ℕ → Around → Want} → look_word result_words w ≡ some f → Started k f → (k ≡ 13 → 3 ≤ length w)
      → ResultSays w (Some k)
  says_no_result : look_word result_words w ≡ none → ResultSays w None
