-- `form_reader::words::place_code` meets its contract. Assumes nothing.
use mathlib.Core.Path.{refl}
use native.Mathlib.Omega.{arith}
use Rattle.definitions.specs.Bytes.{bytes}
use Rattle.tokens.specs.TokenRead.{word_in}
use Rattle.tokens.specs.WordValues.{joined, word_value, fits}
use Rattle.form_reader.proofs.WordTables.{it_told, field_told, no_place_told}
use Rattle.form_reader.proofs.words.place_code.Goals as goal

pub returns-in-6910978 : goal.returns-in-6910978
unfolding bytes word_value joined fits
returns-in-6910978 c =
    record {
      told = it_told (word_in c.args.text.now c.args.word.place c.args.word.end)
          (c.word_value.ensures.told.is (bytes "it") refl c.in-6910978.is);
    }

pub returns-in-112602859201541 : goal.returns-in-112602859201541
unfolding bytes word_value joined fits
returns-in-112602859201541 c =
    record {
      told = field_told (word_in c.args.text.now c.args.word.place c.args.word.end)
          (c.word_value.ensures.told.is (bytes "field") refl c.in-112602859201541.is);
    }

pub returns-in_default : goal.returns-in_default
unfolding bytes word_value joined fits
returns-in_default c =
    record {
      told = no_place_told (word_in c.args.text.now c.args.word.place c.args.word.end)
          (c.word_value.ensures.told.other (bytes "it") refl (λ e. omega (arith, c.in_default, e)))
          (c.word_value.ensures.told.other (bytes "field") refl (λ e. omega (arith, c.in_default, e)));
    }
