-- `shape_reader::opening::member_word` meets its contract. Assumes nothing.
use mathlib.Core.Path.{refl}
use Rattle.tokens.specs.Standing.{low_value}
use Rattle.tokens.specs.StandingLaws.{high, high_word}
use Rattle.tokens.specs.WordValues.{joined, word_value, fits}
use Rattle.shape_reader.specs.ShapeParts.{member_bytes}
use Rattle.shape_reader.proofs.opening.member_word.Goals as goal

pub returns-then-stands : goal.returns-then-stands
unfolding low_value fits high
returns-then-stands c =
    record {
      read = record {
        answer = (
          c.args.at,
          c.stands.ensures.told.found member_bytes refl (high_word _ _ refl) refl refl refl c.if-stands.true,
          refl,
        );
      };
    }

pub returns : goal.returns
unfolding word_value joined fits
returns c = record { read = c.expect.ensures.read member_bytes refl refl }
