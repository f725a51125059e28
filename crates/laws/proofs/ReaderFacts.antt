-- Readers that are accepted are well_formed: no `it` reaches past the document, and no name comes twice. Assumes nothing.
use Rattle.std.specs.Prelude.{ℕ, ◌≡◌, refl, true, List}
use Rattle.definitions.specs.declared.Limits.{Limits}
use Rattle.definitions.specs.Bytes.{Bytes}
use Rattle.definitions.specs.Outcome.{ok}
use Rattle.definitions.specs.Reader.{Place, Result, Pairs, read_reader}
use Rattle.definitions.specs.Tokens.{Placed}
use Rattle.laws.specs.Bools.{and_intro, not_false}
use Rattle.laws.specs.Distinct.{distinct}
use Rattle.laws.specs.Readers.{scoped_place, scoped, scoped_pairs, proper, proper_pairs}
use Rattle.laws.specs.FormGrammar.{index_word, PlaceForm, it_form, field_form, ResultForm, convert_form, keep_form, count_form, each_form}
use Rattle.laws.specs.FormGrammar.{when_form, if_form, num_form, str_form, yes_form, no_form, none_form, pack_form, PairsForm, no_pair, next_pair}
use Rattle.laws.specs.FormGrammar.{ReaderWithin, one_form, no_token}
use Rattle.laws.specs.Tests.{lt-ltb}
use Rattle.laws.proofs.ReaderForms.{reader_accepted_to}

-- ---- scope

pub place_scoped : {k : ℕ} {ts us : List Placed} {p : Place} → PlaceForm k ts p us → scoped_place k p ≡ true
unfolding scoped_place
place_scoped (it_form h (index_word w a b c)) = lt-ltb _ _ c
place_scoped (field_form h f) = place_scoped f

mutual
  unfolding scoped

  pub result_scoped : {k : ℕ} {ts us : List Placed} {r : Result} → ResultForm k ts r us → scoped k r ≡ true
  result_scoped (convert_form w h f) = place_scoped f
  result_scoped (keep_form h f) = place_scoped f
  result_scoped (count_form h f) = place_scoped f
  result_scoped (each_form h f g) = and_intro (place_scoped f) (result_scoped g)
  result_scoped (when_form h w f g i) = and_intro (and_intro (place_scoped f) (result_scoped g)) (result_scoped i)
  result_scoped (if_form h f g i) = and_intro (and_intro (result_scoped f) (result_scoped g)) (result_scoped i)
  result_scoped (num_form h w) = refl
  result_scoped (str_form h) = refl
  result_scoped (yes_form h) = refl
  result_scoped (no_form h) = refl
  result_scoped (none_form h) = refl
  result_scoped (pack_form h ps) = pairs_scoped ps

  pub pairs_scoped : {k : ℕ} {ts us : List Placed} {ps : Pairs} → PairsForm k ts ps us → scoped_pairs k ps ≡ true
  pairs_scoped no_pair = refl
  pairs_scoped (next_pair q f n ps) = and_intro (result_scoped f) (pairs_scoped ps)

pub reader_scoped : (l : Limits) (s : Bytes) (r : Result) → read_reader l s ≡ ok r → scoped 1 r ≡ true
unfolding scoped
reader_scoped l s r e = within_scoped (reader_accepted_to l s r e)
  where
    within_scoped : {ts : List Placed} {q : Result} → ReaderWithin l ts q → scoped 1 q ≡ true
    within_scoped (one_form f a b) = result_scoped f
    within_scoped no_token = refl

-- ---- distinct names

mutual
  unfolding proper distinct

  pub result_proper : {k : ℕ} {ts us : List Placed} {r : Result} → ResultForm k ts r us → proper r ≡ true
  result_proper (convert_form w h f) = refl
  result_proper (keep_form h f) = refl
  result_proper (count_form h f) = refl
  result_proper (each_form h f g) = result_proper g
  result_proper (when_form h w f g i) = and_intro (result_proper g) (result_proper i)
  result_proper (if_form h f g i) = and_intro (and_intro (result_proper f) (result_proper g)) (result_proper i)
  result_proper (num_form h w) = refl
  result_proper (str_form h) = refl
  result_proper (yes_form h) = refl
  result_proper (no_form h) = refl
  result_proper (none_form h) = refl
  result_proper (pack_form h ps) = pairs_proper ps

  pub pairs_proper : {k : ℕ} {ts us : List Placed} {ps : Pairs} → PairsForm k ts ps us → proper_pairs ps ≡ true
  pairs_proper no_pair = refl
  pairs_proper (next_pair q f n ps) = and_intro (and_intro (not_false n) (result_proper f)) (pairs_proper ps)

pub reader_proper : (l : Limits) (s : Bytes) (r : Result) → read_reader l s ≡ ok r → proper r ≡ true
unfolding proper distinct
reader_proper l s r e = within_proper (reader_accepted_to l s r e)
  where
    within_proper : {ts : List Placed} {q : Result} → ReaderWithin l ts q → proper q ≡ true
    within_proper (one_form f a b) = result_proper f
    within_proper no_token = refl
