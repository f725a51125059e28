-- Shape texts: reading them token by token, and writing them in the paper's layout. Assumes nothing.
use Rattle.std.specs.Prelude.{ℕ, suc, Bool, true, false, not, ◌&&◌, ◌||◌, List, [], ◌∷◌, ◌++◌, map, ltb, eqb, length, replicate}
use Rattle.std.proofs.Math.Option.{Option, none, some}
use Rattle.definitions.specs.declared.Limits.{Limits}
use Rattle.definitions.specs.Bytes.{Bytes, bytes}
use Rattle.definitions.specs.Outcome.{Outcome}
use Rattle.definitions.specs.Plain.{plain_text}
use Rattle.definitions.specs.Shape.{Kind, all_kinds, rank, among, Numeric, no_number, int_only, int_and_dec, Shape, shape}
use Rattle.definitions.specs.Shape.{Element, no_list, list_of, Record, no_rec, rec_of, Fields, no_fields, field, has, before}
use Rattle.definitions.specs.Tokens.{Token, opening, closing, quoted, word, broken, Placed, tokens, Step, misplaced, go, opens, want_open}
use Rattle.definitions.specs.Tokens.{want_close, want_text, where_true, where_some, Named, named, look_word, want_named, read_tokens}

-- ---- where in a shape text a token stands

-- what has been read of a shape: its kinds and its members, latest first, and its element
pub record Parts : Type 0 where
  pub kinds : List Kind
  pub element : Element
  pub fields : Fields

-- what is open around a shape: it is the element of a shape of these parts, or a member under this name
pub data Around : Type 0 where
  text_end : Around
  as_element : Parts → Around → Around
  as_member : Parts → Bytes → Around → Around

-- what must come
pub data Want : Type 0 where
  -- the bracket of a shape, then the word `shape`
  shape_open : Around → Want
  shape_word : Around → Want
  -- a kind word, or what comes behind the kinds
  kind_word : Parts → Around → Want
  -- a member, or the bracket that ends the shape
  member_open : Parts → Around → Want
  -- the word `member`, the member's name, and behind its shape the bracket that ends the member
  member_word : Parts → Around → Want
  member_name : Parts → Around → Want
  member_close : Parts → Around → Want

-- something must come, or the text is whole
pub data State : Type 0 where
  want : Want → State
  whole : Shape → State

-- behind the word `shape`
unfoldable pub no_parts : Parts
no_parts = record { kinds = []; element = no_list; fields = no_fields }

-- one kind more
unfoldable pub with_kind : Kind → Parts → Parts
with_kind k p = record { kinds = k ∷ p.kinds; element = p.element; fields = p.fields }

-- the element read
unfoldable pub with_element : Shape → Parts → Parts
with_element s p = record { kinds = p.kinds; element = list_of s; fields = p.fields }

-- one member more
unfoldable pub with_member : Bytes → Shape → Parts → Parts
with_member n s p = record { kinds = p.kinds; element = p.element; fields = field n s p.fields }

-- what comes behind a shape
unfoldable pub put : Shape → Around → State
put s text_end = whole s
put s (as_element p o) = want (member_open (with_element s p) o)
put s (as_member p n o) = want (member_close (with_member n s p) o)

-- how many shapes are open
unfoldable pub depth : Around → ℕ
depth text_end = 0
depth (as_element p o) = suc (depth o)
depth (as_member p n o) = suc (depth o)

-- ---- the shape of its parts

-- the members of the first, last one first, before those of the second
unfoldable pub fields_onto : Fields → Fields → Fields
fields_onto no_fields gs = gs
fields_onto (field n s fs) gs = fields_onto fs (field n s gs)

-- int and dec among these kinds
unfoldable pub numeric_from : List Kind → Numeric
numeric_from ks =
    elim (among Kind.dec ks) [
      | true ↦ int_and_dec
      | false ↦ elim (among Kind.int ks) [ true ↦ int_only | false ↦ no_number ]
    ]

-- the members in order, where rec is there
unfoldable pub record_from : Parts → Record
record_from p = elim (among Kind.rec p.kinds) [ true ↦ rec_of (fields_onto p.fields no_fields) | false ↦ no_rec ]

-- the shape of these parts
unfoldable pub build : Parts → Shape
build p =
    shape
    (among Kind.null p.kinds)
    (among Kind.bool p.kinds)
    (numeric_from p.kinds)
    (among Kind.text p.kinds)
    p.element
    (record_from p)

-- ---- the grammar

-- the word of a kind
unfoldable pub kind_name : Kind → Bytes
kind_name Kind.null = bytes "null"
kind_name Kind.bool = bytes "bool"
kind_name Kind.int = bytes "int"
kind_name Kind.dec = bytes "dec"
kind_name Kind.text = bytes "text"
kind_name Kind.list = bytes "list"
kind_name Kind.rec = bytes "rec"

-- the words of the seven kinds
unfoldable pub kind_words : List (Named Kind)
kind_words = map (λ k. named (kind_name k) k) all_kinds

-- the word of a shape form
unfoldable pub shape_words : List (Named (Unit {0}))
shape_words = named (bytes "shape") tt ∷ []

-- the word of a member form
unfoldable pub member_words : List (Named (Unit {0}))
member_words = named (bytes "member") tt ∷ []

-- "the kind words, in the order above": behind the latest of these
unfoldable pub in_order : List Kind → Kind → Bool
in_order [] k = true
in_order (j ∷ js) k = ltb (rank j) (rank k)

-- a kind that may follow these; "dec only together with int"
unfoldable pub may_follow : List Kind → Kind → Bool
may_follow ks k = in_order ks k && (not (eqb (rank k) (rank Kind.dec)) || among Kind.int ks)

-- "names strictly ascending by bytes": a name behind the latest member
unfoldable pub name_fits : Fields → Bytes → Bool
name_fits no_fields n = true
name_fits (field m s fs) n = before m n

-- behind the kinds and the element
unfoldable pub member_step : Parts → Around → Token → Step State
member_step p o opening = where_true (among Kind.rec p.kinds) (go (want (member_word p o)))
member_step p o closing = go (put (build p) o)
member_step p o (quoted t) = misplaced
member_step p o (word w) = misplaced
member_step p o broken = misplaced

-- behind kinds with list: the element must come
unfoldable pub element_step : Parts → Around → Token → Step State
element_step p o t = want_open t (opens (suc (suc (depth o))) (want (shape_word (as_element p o))))

-- a bracket behind the kinds
unfoldable pub bracket_step : Parts → Around → Token → Step State
bracket_step p o t = elim (among Kind.list p.kinds) [ true ↦ element_step p o t | false ↦ member_step p o t ]

-- "After the kind words, in the order above, come the element shape, then `(member "name" SHAPE)` forms."
unfoldable pub kind_step : Parts → Around → Token → Step State
kind_step p o opening = bracket_step p o opening
kind_step p o closing = bracket_step p o closing
kind_step p o (quoted t) = misplaced
kind_step p o (word w) =
    where_some (look_word kind_words w) (λ k. where_true (may_follow p.kinds k) (go (want (kind_word (with_kind k p) o))))
kind_step p o broken = misplaced

-- what a token does where something must come
unfoldable pub want_step : Want → Token → Step State
want_step (shape_open o) t = want_open t (opens (suc (depth o)) (want (shape_word o)))
want_step (shape_word o) t = want_named shape_words t (λ u. go (want (kind_word no_parts o)))
want_step (kind_word p o) t = kind_step p o t
want_step (member_open p o) t = member_step p o t
want_step (member_word p o) t = want_named member_words t (λ u. go (want (member_name p o)))
want_step (member_name p o) t =
    want_text t (λ n. where_true (name_fits p.fields n) (go (want (shape_open (as_member p n o)))))
want_step (member_close p o) t = want_close t (go (want (member_open p o)))

-- what a token does; none may stand behind the whole text
unfoldable pub step : State → Placed → Step State
step (want w) t = want_step w t.token
step (whole s) t = misplaced

-- the shape of a text that may end here
unfoldable pub finished : State → Option Shape
finished (want w) = none
finished (whole s) = some s

-- what reading a shape text comes to, with refusals 7 and 8 at their places
unfoldable pub read_shape : Limits → Bytes → Outcome ℕ Shape
read_shape l s = read_tokens step finished l 0 (length s) (want (shape_open text_end)) (tokens s)

-- ---- writing

-- "words and names follow after single spaces": those of the shape's kinds
unfoldable pub write_kinds : Shape → List Kind → Bytes
write_kinds s [] = []
write_kinds s (k ∷ ks) = elim (has k s) [ true ↦ bytes " " ++ kind_name k | false ↦ [] ] ++ write_kinds s ks

-- "one form a line, indented by one space for each form around it"
unfoldable pub new_line : ℕ → Bytes
new_line around = bytes "\n" ++ replicate around 0x20

-- the form of a shape with so many forms around it; "closing brackets follow the last item"
unfoldable mutual
  pub write : Shape → ℕ → Bytes
  write (shape n b m t e r) around =
      bytes "(shape"
      ++ write_kinds (shape n b m t e r) all_kinds
      ++ write_element e (suc around)
      ++ write_record r (suc around)
      ++ bytes ")"

  -- the element on a line of its own
  pub write_element : Element → ℕ → Bytes
  write_element no_list around = []
  write_element (list_of s) around = new_line around ++ write s around

  -- the members, each on a line of its own
  pub write_record : Record → ℕ → Bytes
  write_record no_rec around = []
  write_record (rec_of fs) around = write_fields fs around

  -- "Names are written as plain JSON texts."
  pub write_fields : Fields → ℕ → Bytes
  write_fields no_fields around = []
  write_fields (field n s fs) around =
      new_line around
      ++ bytes "(member "
      ++ plain_text n
      ++ new_line (suc around)
      ++ write s (suc around)
      ++ bytes ")"
      ++ write_fields fs around

-- a shape's text; "one line feed ends it"
unfoldable pub write_shape : Shape → Bytes
write_shape s = write s 0 ++ bytes "\n"
