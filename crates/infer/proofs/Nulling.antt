-- Whether a record has a member of a name, and null for the members that it lacks. Assumes nothing.
use Prim.Native.Nat.{ℕ, ◌*◌, ◌/◌, ◌%◌, ◌≤◌, ◌<◌}
use mathlib.Core.Path.{◌≡◌, refl, sym, ap, subst, ◌∙◌}
use mathlib.Core.Bool.{Bool}
use mathlib.Core.List.{List}
use lib.ListN.{length, take}
use Rattle.definitions.specs.Bytes.{Bytes}
use Rattle.definitions.specs.Value.{Members, has_name}
use Rattle.definitions.specs.Shape.{Fields, forms_fields}
use Rattle.pool.specs.Pool.{text_in}
use Rattle.nodes.specs.Nodes.{Refers}
use Rattle.plain.specs.Table.{Used}
use Rattle.nodes.specs.Standing.{MembersStand, member_count}
use Rattle.nodes.specs.StandingLaws.{text_referred}
use Rattle.shapes.specs.Shapes.{FieldRows, FieldsStand}
use Rattle.shapes.specs.Members.{field_count}
use Rattle.shapes.specs.AsMany.{as_many}
use Rattle.join.specs.Replacing.{Put}
use Rattle.growing.specs.Growing.{named}
use Rattle.growing.specs.GrowingLaws.{others_there}
use Rattle.growing.specs.Rows.{Nulls}
use Rattle.growing.specs.NullLaws.{nulls_none}
use Rattle.infer.specs.Inferring.{MembersThere, NullsOthers}

pub there_told
    : {nodes pool : List ℕ} {at end k : ℕ} {b : Bool}
    → ((p : List ℕ) (ms : Members) → take (length p) pool ≡ p → length p < 65536 → MembersStand nodes p at end ms
    → b ≡ has_name (text_in pool (k % 65536) (k / 65536)) ms)
    → {p : List ℕ} {n : Bytes} {there : Bytes → Bool} → Used pool p → Refers p n k → MembersThere nodes at end p there → b ≡ there n
there_told {pool = pool} told {p} {n} u r t =
    told p t.members u.front u.small t.held
    ∙ ap (λ (x : Bytes). has_name x t.members) (text_referred pool u.front u.small r)
    ∙ t.tells n

-- null for the members that are lacked, in the words of the record
pub others_of
    : {shapes nodes pool shapes' : List ℕ} {used first last at end : ℕ} (had : Bool)
    → Nulls (MembersThere nodes at end) shapes pool shapes' used first last had
    → NullsOthers shapes nodes pool shapes' used first last at end had
others_of had q p fs ms m s d l = q p fs (λ (n : Bytes). has_name n ms) m (record { members = ms; held = s; tells = λ n. refl })

-- a record with as many members as are listed lacks none
pub none_lacked
    : {shapes nodes pool : List ℕ} {used first last at end : ℕ} {x y : ℕ} (had : Bool)
    → ((p : List ℕ) (fs : Fields) → FieldsStand shapes p first last fs → x ≡ field_count fs)
    → ((p : List ℕ) (ms : Members) → MembersStand nodes p at end ms → y ≡ member_count ms)
    → x ≡ y → used ≤ length shapes → NullsOthers shapes nodes pool shapes used first last at end had
unfolding named
none_lacked {shapes} {used = used} {first} had f g e j p fs ms m s d l =
    subst
    (λ (gs : Fields). Put shapes shapes used 0 first (2 * forms_fields fs) (FieldRows p gs))
    (sym
    (others_there had (λ (n : Bytes). has_name n ms) fs
    (as_many ms fs d l (sym (g p ms s) ∙ sym e ∙ f p fs m.stand))))
    (nulls_none m.stand m.begins m.within j)
