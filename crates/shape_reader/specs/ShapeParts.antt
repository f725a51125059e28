-- What the parts of reading a shape text answer: each says how `read_tokens` goes from where it starts to where it ends, for
-- every stack of what is open around it, and what it put into the tables. Assumes nothing.
use Rattle.std.specs.Prelude.{ℕ, suc, ◌+◌, ◌*◌, ◌≤◌, ◌<◌, ◌≡◌, Bool, true, false, List, [], ◌∷◌, ◌++◌, ltb, length, take, Result, Ok, Err, Some, None}
use Rattle.std.specs.Prelude as std
use Rattle.std.proofs.Math.Option.{Option, none, some}
use Rattle.definitions.specs.declared.Limits.{Limits}
use Rattle.definitions.specs.Bytes.{Bytes}
use Rattle.definitions.specs.Outcome.{Outcome, refused}
use Rattle.definitions.specs.Shape.{Kind, among, Shape, Element, no_list, Fields, no_fields, field, has_list}
use Rattle.definitions.specs.Tokens.{read_tokens, misplaced}
use Rattle.definitions.specs.Tokens as Tokens
use Rattle.definitions.specs.ShapeText.{Parts, Around, as_element, as_member, Want, shape_open, kind_word, member_open, member_word, member_close, State, want}
use Rattle.definitions.specs.ShapeText.{no_parts, put, depth, build, numeric_from, in_order, may_follow, name_fits, want_step, step, finished}
use Rattle.pool.specs.Pool.{words, text_in}
use Rattle.nodes.specs.Nodes.{Refers}
use Rattle.shapes.specs.Shapes.{kind_bit, bit, numeric_bits, has_bit, ShapeRows, ElementRows}
use Rattle.tokens.specs.Expecting.{TextPlaced, Kept}
use Rattle.tokens.specs.TokenRead.{tokens_from, Found}
use Rattle.reading.specs.declared.Cause.TheVariants.{FormSyntax}
use Rattle.reading.specs.declared.Cursor.{Cursor}
use Rattle.reading.specs.declared.Refusal.{Refusal}
use Rattle.reading.specs.Refusals.{refused_as}
use Rattle.tokens.specs.declared.expect.Quoted.{Quoted}
use Rattle.shape_reader.specs.declared.kinds.Kinds.{Kinds}
use Rattle.shape_reader.specs.declared.members.Turn.{Turn}
use Rattle.shape_reader.specs.declared.members.Turn.TheVariants.{More, End}

-- ---- reading

-- what reading comes to from a place on that stands between tokens, where n shapes are begun
unfoldable pub reading : Limits → (n : ℕ) → Bytes → State → ℕ → Outcome ℕ Shape
reading l n text q at = read_tokens step finished l n (length text) q (tokens_from text at)

-- so many shapes may begin, and so much nesting is left inside o
pub record Limited (l : Limits) (o : Around) (values left : ℕ) : Type 0 where
  pub most : l.values ≡ values
  pub nests : depth o + left ≡ l.nesting

-- only this token may stand there
abbrev pub Only : Want → Tokens.Token → Type 0
Only w t = (u : Tokens.Token) → (u ≡ t → ⊥) → want_step w u ≡ misplaced

-- ---- a fixed word

-- the bytes of `shape`
abbrev pub shape_bytes : Bytes
shape_bytes = 0x73 ∷ 0x68 ∷ 0x61 ∷ 0x70 ∷ 0x65 ∷ []

-- the bytes of `member`
abbrev pub member_bytes : Bytes
member_bytes = 0x6D ∷ 0x65 ∷ 0x6D ∷ 0x62 ∷ 0x65 ∷ 0x72 ∷ []

-- the word w stands there up to an end; or what stands there is refused wherever only w may stand
abbrev pub ExpectedAnswer : Bytes → ℕ → Bytes → Result ℕ Refusal → Type 0
ExpectedAnswer text at w (Ok end) =
    (place : ℕ) × Found text at (Tokens.word w) place end × (place + length w ≡ end)
ExpectedAnswer text at w (Err r) =
    (r.cause ≡ FormSyntax) × ((l : Limits) (n : ℕ) (q : Want) → Only q (Tokens.word w) → reading l n text (want q) at ≡ refused_as r)

-- the answer r where the word w must come
pub record Expects (text : Bytes) (at : ℕ) (w : Bytes) (r : Result ℕ Refusal) : Type 0 where
  pub answer : ExpectedAnswer text at w r

-- ---- the bracket and the word of a shape

-- reading goes on behind the word `shape`, and one shape more is begun
pub record ShapeBegun (text : Bytes) (values left : ℕ) (c : Cursor) (at : ℕ) : Type 0 where
  pub run
      : (l : Limits) (o : Around) → Limited l o values left
      → reading l c.begun text (want (shape_open o)) c.at ≡ reading l (suc c.begun) text (want (kind_word no_parts o)) at
  pub ahead : c.at ≤ at
  pub within : at ≤ length text
  pub begun : c.begun < values
  pub nested : 0 < left

-- reading a shape that must begin at c is refused
abbrev pub FormRefused : Bytes → (values left : ℕ) → Cursor → Refusal → Type 0
FormRefused text values left c r =
    (l : Limits) (o : Around) → Limited l o values left
    → reading l c.begun text (want (shape_open o)) c.at ≡ refused_as r

-- the bracket and the word of a shape, or a refusal
abbrev pub OpeningAnswer : Bytes → (values left : ℕ) → Cursor → Result ℕ Refusal → Type 0
OpeningAnswer text values left c (Ok at) = ShapeBegun text values left c at
OpeningAnswer text values left c (Err r) = FormRefused text values left c r

-- the answer r where a shape must begin
pub record BeginsShape (text : Bytes) (values left : ℕ) (c : Cursor) (r : Result ℕ Refusal) : Type 0 where
  pub answer : OpeningAnswer text values left c r

-- ---- kinds

-- the bit of a kind; where there is none, 0
unfoldable pub kind_code : Option Kind → ℕ
kind_code none = 0
kind_code (some k) = kind_bit k

-- the sum of the bits of these kinds
unfoldable pub bits_of : List Kind → ℕ
bits_of ks =
    bit (among Kind.null ks)
    + 2 * bit (among Kind.bool ks)
    + 4 * numeric_bits (numeric_from ks)
    + 16 * bit (among Kind.text ks)
    + 32 * bit (among Kind.list ks)
    + 64 * bit (among Kind.rec ks)

-- the kinds read so far, latest first, and their bits
pub record KindsHeld (ks : List Kind) (kinds : ℕ) : Type 0 where
  pub bits : kinds ≡ bits_of ks
  pub order : (k : Kind) → in_order ks k ≡ ltb kinds (kind_bit k)

-- whether the kind of a bit may follow; none has the bit 0
pub record Follows (kinds kind : ℕ) (r : Bool) : Type 0 where
  pub judged : (ks : List Kind) → KindsHeld ks kinds → (k : Kind) → kind ≡ kind_bit k → r ≡ may_follow ks k
  pub no_kind : kind ≡ 0 → r ≡ false
  pub higher : r ≡ true → kinds < kind

-- a shape of these parts
abbrev pub parts : List Kind → Element → Fields → Parts
parts ks e fs = record { kinds = ks; element = e; fields = fs }

-- what must come behind the kinds, by whether list is there
unfoldable pub behind : Bool → Parts → Around → Want
behind true p o = shape_open (as_element p o)
behind false p o = member_open p o

abbrev pub behind_kinds : Parts → Around → Want
behind_kinds p o = behind (among Kind.list p.kinds) p o

-- kinds have been read, and what comes behind them must come
pub record KindsRead (text : Bytes) (at kinds to : ℕ) : Type 0 where
  pub listed : List Kind
  pub held : KindsHeld listed kinds
  pub run
      : (l : Limits) (n : ℕ) (o : Around)
      → reading l n text (want (kind_word no_parts o)) at
      ≡ reading l n text (want (behind_kinds (parts listed no_list no_fields) o)) to
  pub ahead : at ≤ to
  pub within : to ≤ length text

-- the kinds, or refusal 7
abbrev pub KindsAnswer : Bytes → ℕ → Result Kinds Refusal → Type 0
KindsAnswer text at (Ok k) = KindsRead text at k.kinds.kinds k.end
KindsAnswer text at (Err r) =
    (r.cause ≡ FormSyntax) × ((l : Limits) (n : ℕ) (o : Around) → reading l n text (want (kind_word no_parts o)) at ≡ refused_as r)

-- the answer r behind the word `shape`
pub record ReadsKinds (text : Bytes) (at : ℕ) (r : Result Kinds Refusal) : Type 0 where
  pub answer : KindsAnswer text at r

-- ---- a shape up to its kinds

-- a shape of these kinds has been read up to them
pub record Opens (text : Bytes) (values left : ℕ) (c : Cursor) (kinds at : ℕ) : Type 0 where
  pub listed : List Kind
  pub held : KindsHeld listed kinds
  pub run
      : (l : Limits) (o : Around) → Limited l o values left
      → reading l c.begun text (want (shape_open o)) c.at
      ≡ reading l (suc c.begun) text (want (behind_kinds (parts listed no_list no_fields) o)) at
  pub ahead : c.at ≤ at
  pub within : at ≤ length text
  pub begun : c.begun < values
  pub nested : 0 < left

-- a shape up to its kinds, or a refusal
abbrev pub HeadAnswer : Bytes → (values left : ℕ) → Cursor → Result Kinds Refusal → Type 0
HeadAnswer text values left c (Ok k) = Opens text values left c k.kinds.kinds k.end
HeadAnswer text values left c (Err r) = FormRefused text values left c r

-- the answer r where a shape must begin
pub record OpensForm (text : Bytes) (values left : ℕ) (c : Cursor) (r : Result Kinds Refusal) : Type 0 where
  pub answer : HeadAnswer text values left c r

-- ---- names

-- the name of the latest of the members, if there is one, stands at this reference
pub data Latest (p : List ℕ) : Fields → (latest : std.Option ℕ) → Type 0 where
  none_yet : Latest p no_fields None
  latest_is : {n : Bytes} {s : Shape} {fs : Fields} {w : ℕ} → Refers p n w → Latest p (field n s fs) (Some w)

-- a name of n bytes in the pool from word w on, up to place end
pub record NameRead (text : Bytes) (at : ℕ) (p : List ℕ) (w place end n : ℕ) : Type 0 where
  pub fits
      : (l : Limits) (k : ℕ) (q : Parts) (o : Around) → name_fits q.fields (text_in p w n) ≡ true
      → reading l k text (want (member_word q o)) at ≡ reading l k text (want (shape_open (as_member q (text_in p w n) o))) end
  pub misfits
      : (l : Limits) (k : ℕ) (q : Parts) (o : Around) → name_fits q.fields (text_in p w n) ≡ false
      → reading l k text (want (member_word q o)) at ≡ refused 7 place
  pub size : length (text_in p w n) ≡ n
  pub room : w + words n ≤ length p
  pub longer : at + n + 8 ≤ end
  pub within : end ≤ length text

-- a name, or refusal 7 whatever the parts before
abbrev pub NamedAnswer : Bytes → ℕ → List ℕ → ℕ → Result Quoted Refusal → Type 0
NamedAnswer text at p w (Ok q) = NameRead text at p w q.place q.end q.bytes
NamedAnswer text at p w (Err r) =
    (r.cause ≡ FormSyntax) × ((l : Limits) (k : ℕ) (q : Parts) (o : Around) → reading l k text (want (member_word q o)) at ≡ refused_as r)

-- the answer r behind the bracket of a member, and the pool p' that was p
pub record ReadsName (text : Bytes) (p p' : List ℕ) (at top : ℕ) (r : Result Quoted Refusal) : Type 0 where
  pub answer : NamedAnswer text at p' top r
  pub kept : Kept p p' top

-- ---- members

-- how far reading goes
pub record Moves (text : Bytes) (from to : Cursor) : Type 0 where
  pub ahead : from.at ≤ to.at
  pub within : to.at ≤ length text
  pub grows : from.top ≤ to.top
  pub room : 8 * to.top + from.at ≤ to.at + 8 * from.top

-- a member's shape comes behind its bracket, which stands before place `at`
pub record MemberNamed
    (latest : std.Option ℕ) (text : Bytes) (p p' : List ℕ) (at : ℕ) (c to : Cursor) (name : ℕ) : Type 0 where
  pub bytes : Bytes
  pub run
      : (q : Parts) → Latest (take c.top p) q.fields latest → (l : Limits) (n : ℕ) (o : Around)
      → reading l n text (want (member_word q o)) at ≡ reading l n text (want (shape_open (as_member q bytes o))) to.at
  pub refers : Refers (take to.top p') bytes name
  pub begun : to.begun ≡ c.begun
  pub moves : Moves text c to
  pub further : c.at < to.at

-- the shape of a member, or a refusal
abbrev pub NamesAnswer
    : (latest : std.Option ℕ) (text : Bytes) (p p' : List ℕ) (at : ℕ) (c : Cursor) → Result Turn Refusal → Type 0
NamesAnswer latest text p p' at c (Ok (More to name)) = MemberNamed latest text p p' at c to name
NamesAnswer latest text p p' at c (Ok (End to)) = ⊥
NamesAnswer latest text p p' at c (Err r) =
    (q : Parts) → Latest (take c.top p) q.fields latest → (l : Limits) (n : ℕ) (o : Around)
    → reading l n text (want (member_word q o)) at ≡ refused_as r

-- the answer r behind the bracket of a member, judged by the latest name, and the pool p' that was p
pub record NamesMember
    (latest : std.Option ℕ) (text : Bytes) (p p' : List ℕ) (at : ℕ) (c : Cursor) (r : Result Turn Refusal) : Type 0 where
  pub answer : NamesAnswer latest text p p' at c r
  pub kept : Kept p p' c.top

-- a member's shape comes
pub record MemberNext
    (latest : std.Option ℕ) (text : Bytes) (p p' : List ℕ) (kinds : ℕ) (c to : Cursor) (name : ℕ)
    : Type 0 where
  pub bytes : Bytes
  pub run
      : (ks : List Kind) (e : Element) (fs : Fields) → KindsHeld ks kinds → Latest (take c.top p) fs latest
      → (l : Limits) (n : ℕ) (o : Around)
      → reading l n text (want (member_open (parts ks e fs) o)) c.at
      ≡ reading l n text (want (shape_open (as_member (parts ks e fs) bytes o))) to.at
  pub refers : Refers (take to.top p') bytes name
  pub has_rec : has_bit kinds 64 ≡ true
  pub begun : to.begun ≡ c.begun
  pub moves : Moves text c to
  pub further : c.at < to.at

-- the members end
pub record MembersEnd
    (latest : std.Option ℕ) (text : Bytes) (p : List ℕ) (kinds : ℕ) (c to : Cursor) : Type 0 where
  pub run
      : (ks : List Kind) (e : Element) (fs : Fields) → KindsHeld ks kinds → Latest (take c.top p) fs latest
      → (l : Limits) (n : ℕ) (o : Around)
      → reading l n text (want (member_open (parts ks e fs) o)) c.at ≡ reading l n text (put (build (parts ks e fs)) o) to.at
  pub begun : to.begun ≡ c.begun
  pub top : to.top ≡ c.top
  pub ahead : c.at ≤ to.at
  pub within : to.at ≤ length text

-- a member, the bracket that ends the shape, or a refusal
abbrev pub TurnIs
    : (latest : std.Option ℕ) (text : Bytes) (p p' : List ℕ) (kinds : ℕ) (c : Cursor) → Result Turn Refusal → Type 0
TurnIs latest text p p' kinds c (Ok (More to name)) = MemberNext latest text p p' kinds c to name
TurnIs latest text p p' kinds c (Ok (End to)) = MembersEnd latest text p kinds c to
TurnIs latest text p p' kinds c (Err r) =
    (ks : List Kind) (e : Element) (fs : Fields) → KindsHeld ks kinds → Latest (take c.top p) fs latest
    → (l : Limits) (n : ℕ) (o : Around)
    → reading l n text (want (member_open (parts ks e fs) o)) c.at ≡ refused_as r

-- the answer where a member or the end must come
pub record Turns
    (latest : std.Option ℕ) (text : Bytes) (p p' : List ℕ) (kinds : ℕ) (c : Cursor) (r : Result Turn Refusal) : Type 0 where
  pub answer : TurnIs latest text p p' kinds c r
  pub kept : Kept p p' c.top

-- the bracket of a member, behind its shape
pub record MemberClosed (text : Bytes) (c to : Cursor) : Type 0 where
  pub run
      : (q : Parts) (l : Limits) (n : ℕ) (o : Around)
      → reading l n text (want (member_close q o)) c.at ≡ reading l n text (want (member_open q o)) to.at
  pub begun : to.begun ≡ c.begun
  pub top : to.top ≡ c.top
  pub further : c.at < to.at
  pub within : to.at ≤ length text

abbrev pub CloseAnswer : Bytes → Cursor → Result Cursor Refusal → Type 0
CloseAnswer text c (Ok to) = MemberClosed text c to
CloseAnswer text c (Err r) =
    (q : Parts) (l : Limits) (n : ℕ) (o : Around) → reading l n text (want (member_close q o)) c.at ≡ refused_as r

-- the answer r behind the shape of a member
pub record ClosesMember (text : Bytes) (c : Cursor) (r : Result Cursor Refusal) : Type 0 where
  pub answer : CloseAnswer text c r

-- ---- shapes

-- where reading may begin a shape, and the table has its row
pub record Ready (text : Bytes) (shapes pool : List ℕ) (values : ℕ) (c : Cursor) : Type 0 where
  pub placed : TextPlaced text pool c.at c.top
  pub rows : 2 * values ≤ length shapes
  pub few : values ≤ 32768
  pub limit : c.begun ≤ values

-- reading goes from one place to another over a part whose rows follow those before it
pub record Goes (values : ℕ) (text : Bytes) (shapes pool shapes' pool' : List ℕ) (from to : Cursor) (rows : List ℕ) : Type 0 where
  pub table : take (2 * to.begun) shapes' ≡ take (2 * from.begun) shapes ++ rows
  pub counted : 2 * to.begun ≡ 2 * from.begun + length rows
  pub limit : to.begun ≤ values
  pub front : take from.top pool' ≡ take from.top pool
  pub moves : Moves text from to

-- the tables are as long as they were
pub record Sized (shapes pool shapes' pool' : List ℕ) : Type 0 where
  pub shapes_kept : length shapes' ≡ length shapes
  pub pool_kept : length pool' ≡ length pool

-- a shape has been read; its rows follow those before it
pub record FormDone
    (left values : ℕ) (text : Bytes) (shapes pool shapes' pool' : List ℕ) (name : ℕ) (c to : Cursor) : Type 0 where
  pub form : Shape
  pub run
      : (l : Limits) (o : Around) → Limited l o values left
      → reading l c.begun text (want (shape_open o)) c.at ≡ reading l to.begun text (put form o) to.at
  pub rows : List ℕ
  pub held : ShapeRows (take to.top pool') name form rows
  pub goes : Goes values text shapes pool shapes' pool' c to rows

-- a shape, or a refusal
abbrev pub FormAnswer
    : (left values : ℕ) (text : Bytes) (shapes pool shapes' pool' : List ℕ) (name : ℕ) (c : Cursor) → Result Cursor Refusal → Type 0
FormAnswer left values text shapes pool shapes' pool' name c (Ok to) =
    FormDone left values text shapes pool shapes' pool' name c to
FormAnswer left values text shapes pool shapes' pool' name c (Err r) =
    FormRefused text values left c r

-- the answer r where a shape must begin, and the tables that were shapes and pool
pub record ReadsForm
    (left values : ℕ) (text : Bytes) (shapes pool shapes' pool' : List ℕ) (name : ℕ) (c : Cursor) (r : Result Cursor Refusal) : Type 0 where
  pub answer : FormAnswer left values text shapes pool shapes' pool' name c r
  pub sized : Sized shapes pool shapes' pool'

-- ---- elements

-- an element has been read, or there is none
pub record ElementDone
    (left values : ℕ) (text : Bytes) (shapes pool shapes' pool' : List ℕ) (kinds : ℕ) (c to : Cursor) : Type 0 where
  pub element : Element
  pub run
      : (l : Limits) (o : Around) → Limited l o values (suc left) → (ks : List Kind) → KindsHeld ks kinds
      → reading l c.begun text (want (behind_kinds (parts ks no_list no_fields) o)) c.at
      ≡ reading l to.begun text (want (member_open (parts ks element no_fields) o)) to.at
  pub rows : List ℕ
  pub held : ElementRows (take to.top pool') element rows
  pub is_list : has_list element ≡ has_bit kinds 32
  pub goes : Goes values text shapes pool shapes' pool' c to rows

-- an element or none, or a refusal
abbrev pub ElementAnswer
    : (left values : ℕ) (text : Bytes) (shapes pool shapes' pool' : List ℕ) (kinds : ℕ) (c : Cursor) → Result Cursor Refusal → Type 0
ElementAnswer left values text shapes pool shapes' pool' kinds c (Ok to) =
    ElementDone left values text shapes pool shapes' pool' kinds c to
ElementAnswer left values text shapes pool shapes' pool' kinds c (Err r) =
    (l : Limits) (o : Around) → Limited l o values (suc left) → (ks : List Kind) → KindsHeld ks kinds
    → reading l c.begun text (want (behind_kinds (parts ks no_list no_fields) o)) c.at ≡ refused_as r

-- the answer r behind the kinds, and the tables that were shapes and pool
pub record ReadsElement
    (left values : ℕ) (text : Bytes) (shapes pool shapes' pool' : List ℕ) (kinds : ℕ) (c : Cursor) (r : Result Cursor Refusal) : Type 0 where
  pub answer : ElementAnswer left values text shapes pool shapes' pool' kinds c r
  pub sized : Sized shapes pool shapes' pool'

-- ---- the rows of members

-- the rows of members that are being read, the latest first
pub data FieldsBefore (p : List ℕ) : Fields → List ℕ → Type 0 where
  no_fields_before : FieldsBefore p no_fields []
  field_before
      : {n : Bytes} {k : ℕ} {s : Shape} {fs : Fields} {rs qs : List ℕ} → FieldsBefore p fs rs → Refers p n k → ShapeRows p k s qs
      → FieldsBefore p (field n s fs) (rs ++ qs)

-- members have been read, latest first, and w says what must come
pub record FieldsRead
    (w : List Kind → Element → Fields → Around → State) (left values : ℕ) (text : Bytes) (shapes pool shapes' pool' : List ℕ) (kinds : ℕ)
    (c to : Cursor) (fields : Fields)
    : Type 0 where
  pub run
      : (l : Limits) (o : Around) → Limited l o values (suc left) → (ks : List Kind) → KindsHeld ks kinds → (e : Element)
      → reading l c.begun text (want (member_open (parts ks e no_fields) o)) c.at
      ≡ reading l to.begun text (w ks e fields o) to.at
  pub rows : List ℕ
  pub held : FieldsBefore (take to.top pool') fields rows
  pub bare : has_bit kinds 64 ≡ false → fields ≡ no_fields
  pub goes : Goes values text shapes pool shapes' pool' c to rows

-- the closing bracket has been read
pub record MembersDone
    (left values : ℕ) (text : Bytes) (shapes pool shapes' pool' : List ℕ) (kinds : ℕ) (c to : Cursor) : Type 0 where
  pub fields : Fields
  pub read
      : FieldsRead (λ ks e fs o. put (build (parts ks e fs)) o) left values text shapes pool shapes' pool' kinds c to fields

-- the members and the closing bracket, or a refusal
abbrev pub MembersAnswer
    : (left values : ℕ) (text : Bytes) (shapes pool shapes' pool' : List ℕ) (kinds : ℕ) (c : Cursor) → Result Cursor Refusal → Type 0
MembersAnswer left values text shapes pool shapes' pool' kinds c (Ok to) =
    MembersDone left values text shapes pool shapes' pool' kinds c to
MembersAnswer left values text shapes pool shapes' pool' kinds c (Err r) =
    (l : Limits) (o : Around) → Limited l o values (suc left) → (ks : List Kind) → KindsHeld ks kinds → (e : Element)
    → reading l c.begun text (want (member_open (parts ks e no_fields) o)) c.at ≡ refused_as r

-- the answer r behind the element, and the tables that were shapes and pool
pub record ReadsMembers
    (left values : ℕ) (text : Bytes) (shapes pool shapes' pool' : List ℕ) (kinds : ℕ) (c : Cursor) (r : Result Cursor Refusal) : Type 0 where
  pub answer : MembersAnswer left values text shapes pool shapes' pool' kinds c r
  pub sized : Sized shapes pool shapes' pool'

-- a member's shape must come, under a name
pub record MemberBegun
    (left values : ℕ) (text : Bytes) (shapes pool shapes' pool' : List ℕ) (kinds : ℕ) (c from : Cursor) (name : ℕ) : Type 0 where
  pub bytes : Bytes
  pub fields : Fields
  pub read
      : FieldsRead (λ ks e fs o. want (shape_open (as_member (parts ks e fs) bytes o))) left values text shapes pool shapes' pool' kinds c from
      fields
  pub refers : Refers (take from.top pool') bytes name
  pub has_rec : has_bit kinds 64 ≡ true
  pub sized : Sized shapes pool shapes' pool'

-- another member, or the answer
abbrev pub TurnAnswer
    : (left values : ℕ) (text : Bytes) (shapes pool shapes' pool' : List ℕ) (kinds : ℕ) (c : Cursor) → Result Turn Refusal → Type 0
TurnAnswer left values text shapes pool shapes' pool' kinds c (Ok (More from name)) =
    MemberBegun left values text shapes pool shapes' pool' kinds c from name
TurnAnswer left values text shapes pool shapes' pool' kinds c (Ok (End to)) =
    ReadsMembers left values text shapes pool shapes' pool' kinds c (Ok to)
TurnAnswer left values text shapes pool shapes' pool' kinds c (Err r) =
    ReadsMembers left values text shapes pool shapes' pool' kinds c (Err r)
