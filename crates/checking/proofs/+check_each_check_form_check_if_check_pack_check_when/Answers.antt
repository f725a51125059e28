-- `checking::+check_each_check_form_check_if_check_pack_check_when` meets its contract. Assumes nothing.
use native.Mathlib.Omega.{arith}
use Prim.Native.Nat.{◌+◌}
use mathlib.Core.Path.{sym, ap, subst, ◌∙◌}
use Rattle.checking.specs.CheckContracts.{GivesForm}
use Rattle.checking.proofs.FormWalk.{form_within}
use Rattle.checking.proofs.EachWalk as each
use Rattle.checking.proofs.WhenWalk as when
use Rattle.checking.proofs.ChooseWalk as choose
use Rattle.checking.proofs.PackWalk as pack
use Rattle.forms.specs.Forms.{size_at}
use mathlib.Core.Path.{◌≡◌}
use Rattle.checking.proofs.FormKinds.{simple_asked, simple_told}
use Prim.Native.Nat.{ℕ}
use Rattle.checking.proofs.+check_each_check_form_check_if_check_pack_check_when.Goals as goal

pub check_each-overflow_add-row : goal.check_each-overflow_add-row
check_each-overflow_add-row t c =
    omega (arith, form_within c.requires.form_asked, c.well_formed)

pub check_each-locate-found-requires : goal.check_each-locate-found-requires
check_each-locate-found-requires t c =
    each.each_place_asked c.args.forms.now c.args.shapes.now c.args.pool.now c.args.bindings.now
    c.args.row c.args.bound c.requires.each c.requires.form_asked

pub check_each-returns-in_default : goal.check_each-returns-in_default
check_each-returns-in_default t c =
    record {
      checked = subst (GivesForm c.args.forms.now c.args.shapes.now c.args.pool.now c.args.bindings.now c.args.bindings.now c.args.row c.args.bound)
          (sym (c.refusal.ensures.passed _ c.in_default.is))
          (each.each_refused c.args.forms.now c.args.shapes.now c.args.pool.now c.args.bindings.now
          c.args.row c.args.bound c.requires.each c.locate-found.result c.locate-found.ensures.found c.in_default.is);
    }

pub check_each-bind_element-requires : goal.check_each-bind_element-requires
check_each-bind_element-requires t c =
    record {
      slot_in_bounds = (each.each_ends c.args.forms.now c.args.shapes.now c.args.pool.now
          c.args.bindings.now c.args.row
          c.args.bound c.requires.each c.requires.form_asked).2;
      there = each.list_bound c.args.forms.now c.args.shapes.now c.args.pool.now c.args.bindings.now
          c.args.row c.args.bound c.requires.each c.locate-found.result c.locate-found.ensures.found
          c.in-Ok.is c.requires.form_asked;
      small = c.requires.small;
    }

pub check_each-overflow_add-body : goal.check_each-overflow_add-body
check_each-overflow_add-body t c =
    omega (arith, form_within c.requires.form_asked, c.well_formed)

pub check_each-overflow_add-row-2 : goal.check_each-overflow_add-row-2
check_each-overflow_add-row-2 t c =
    omega (arith, form_within c.requires.form_asked, c.well_formed)

pub check_each-overflow_add-body-2 : goal.check_each-overflow_add-body-2
check_each-overflow_add-body-2 t c =
    let e = each.each_ends c.args.forms.now c.args.shapes.now c.args.pool.now c.args.bindings.now
    c.args.row c.args.bound c.requires.each c.requires.form_asked in
    omega (arith, e.1, c.size.ensures.read, c.well_formed)

pub check_each-overflow_add-bound : goal.check_each-overflow_add-bound
check_each-overflow_add-bound t c =
    let e = each.each_ends c.args.forms.now c.args.shapes.now c.args.pool.now c.args.bindings.now
    c.args.row c.args.bound c.requires.each c.requires.form_asked in
    omega (arith, e.2, c.well_formed)

pub check_each-check_form-part-requires : goal.check_each-check_form-part-requires
check_each-check_form-part-requires t c =
    let e = each.each_ends c.args.forms.now c.args.shapes.now c.args.pool.now c.args.bindings.now
    c.args.row c.args.bound c.requires.each c.requires.form_asked in (
      omega (arith, e.0, e.1, c.size.ensures.read, c.decreases),
      (
        each.body_asked c.args.forms.now c.args.shapes.now c.args.pool.now c.args.bindings.now
            c.args.row c.args.bound c.requires.each c.locate-found.result c.locate-found.ensures.found
            c.in-Ok.is c.bind_element.new.bindings
            c.bind_element.ensures.element
            (ap (λ (x : ℕ). c.args.row + 3 + x) c.size.ensures.read) c.requires.form_asked,
        c.requires.small,
      ),
    )

pub check_each-returns-in_default-part : goal.check_each-returns-in_default-part
check_each-returns-in_default-part t c =
    record {
      checked = subst (GivesForm c.args.forms.now c.args.shapes.now c.args.pool.now c.args.bindings.now c.check_form-part.new.bindings c.args.row c.args.bound)
          (sym c.in_default-part.is)
          (each.body_refused c.args.forms.now c.args.shapes.now c.args.pool.now c.args.bindings.now
          c.args.row c.args.bound c.requires.each c.locate-found.result c.locate-found.ensures.found
          c.in-Ok.is c.bind_element.new.bindings c.bind_element.ensures.element
          (ap (λ (x : ℕ). c.args.row + 3 + x) c.size.ensures.read) c.requires.form_asked
          c.check_form-part.new.bindings c.check_form-part.result c.check_form-part.ensures.checked
          c.in_default-part.is);
    }

pub check_each-returns : goal.check_each-returns
check_each-returns t c =
    record {
      checked = each.each_told c.args.forms.now c.args.shapes.now c.args.pool.now c.args.bindings.now c.args.row
          c.args.bound c.requires.each c.locate-found.result c.locate-found.ensures.found
          c.in-Ok.is c.bind_element.new.bindings c.bind_element.ensures.element
          (ap (λ (x : ℕ). c.args.row + 3 + x) c.size.ensures.read) c.requires.form_asked
          c.check_form-part.new.bindings c.check_form-part.result c.check_form-part.ensures.checked
          c.in-Ok-part.is c.place-place.ensures.read c.want.result c.want.ensures.told;
    }

pub check_form-check_each-requires : goal.check_form-check_each-requires
check_form-check_each-requires t c =
    (omega (arith, c.decreases), (c.requires.form_asked, (c.requires.small, sym c.code.ensures.read ∙ c.in-9.is)))

pub check_form-check_when-requires : goal.check_form-check_when-requires
check_form-check_when-requires t c =
    (omega (arith, c.decreases), (c.requires.form_asked, (c.requires.small, sym c.code.ensures.read ∙ c.in-10.is)))

pub check_form-check_if-requires : goal.check_form-check_if-requires
check_form-check_if-requires t c =
    (omega (arith, c.decreases), (c.requires.form_asked, (c.requires.small, sym c.code.ensures.read ∙ c.in-11.is)))

pub check_form-check_pack-requires : goal.check_form-check_pack-requires
check_form-check_pack-requires t c =
    (omega (arith, c.decreases), (c.requires.form_asked, (c.requires.small, sym c.code.ensures.read ∙ c.in-17.is)))

pub check_form-check_simple-requires : goal.check_form-check_simple-requires
check_form-check_simple-requires t c =
    simple_asked c.args.forms.now c.args.shapes.now c.args.pool.now c.args.bindings.now c.args.row
    c.args.bound c.code.ensures.read (λ e. omega arith) (λ e. omega arith) (λ e. omega arith)
    (λ e. omega arith) c.requires.form_asked

pub check_form-returns-in_default : goal.check_form-returns-in_default
check_form-returns-in_default t c =
    record {
      checked = simple_told c.args.forms.now c.args.shapes.now c.args.pool.now c.args.bindings.now c.args.row
          c.args.bound c.code.ensures.read (λ e. omega arith) (λ e. omega arith) (λ e. omega arith)
          (λ e. omega arith) c.check_simple.result c.check_simple.ensures.checked;
    }

pub check_if-overflow_add-row : goal.check_if-overflow_add-row
check_if-overflow_add-row t c =
    omega (arith, form_within c.requires.form_asked, c.well_formed)

pub check_if-check_form-part-requires : goal.check_if-check_form-part-requires
check_if-check_form-part-requires t c = (
  omega (arith, form_within c.requires.form_asked, c.decreases),
  (
    choose.first_asked c.args.forms.now c.args.shapes.now c.args.pool.now c.args.bindings.now
        c.args.row c.args.bound c.requires.choose c.requires.form_asked,
    c.requires.small,
  ),
)

pub check_if-returns-in_default : goal.check_if-returns-in_default
check_if-returns-in_default t c =
    record {
      checked = subst (GivesForm c.args.forms.now c.args.shapes.now c.args.pool.now c.args.bindings.now c.check_form-part.new.bindings c.args.row c.args.bound)
          (sym c.in_default.is)
          (choose.first_refused c.args.forms.now c.args.shapes.now c.args.pool.now c.args.bindings.now
          c.args.row c.args.bound c.requires.choose c.requires.form_asked c.check_form-part.new.bindings
          c.check_form-part.result c.check_form-part.ensures.checked c.in_default.is);
    }

pub check_if-overflow_add-second : goal.check_if-overflow_add-second
check_if-overflow_add-second t c =
    omega (arith, form_within c.requires.form_asked, c.well_formed)

pub check_if-overflow_add-row-2 : goal.check_if-overflow_add-row-2
check_if-overflow_add-row-2 t c =
    omega (arith, form_within c.requires.form_asked, c.well_formed)

pub check_if-overflow_add-second-2 : goal.check_if-overflow_add-second-2
check_if-overflow_add-second-2 t c =
    let e = choose.choose_ends c.args.forms.now c.args.shapes.now c.args.pool.now c.args.bindings.now
    c.args.row c.args.bound c.requires.choose c.requires.form_asked in
    omega (arith, e.0, c.size.ensures.read, c.well_formed)

pub check_if-check_form-part-requires-2 : goal.check_if-check_form-part-requires-2
check_if-check_form-part-requires-2 t c =
    let e = choose.choose_ends c.args.forms.now c.args.shapes.now c.args.pool.now c.args.bindings.now
    c.args.row c.args.bound c.requires.choose c.requires.form_asked in (
      omega (arith, e.0, c.size.ensures.read, c.decreases),
      (
        choose.second_asked c.args.forms.now c.args.shapes.now c.args.pool.now c.args.bindings.now
            c.args.row c.args.bound c.requires.choose c.requires.form_asked c.check_form-part.new.bindings
            c.check_form-part.result c.check_form-part.ensures.checked c.in-Ok.is
            (ap (λ (x : ℕ). c.args.row + 3 + x) c.size.ensures.read),
        c.requires.small,
      ),
    )

pub check_if-returns-in_default-part : goal.check_if-returns-in_default-part
check_if-returns-in_default-part t c =
    record {
      checked = subst (GivesForm c.args.forms.now c.args.shapes.now c.args.pool.now c.args.bindings.now c.check_form-part-2.new.bindings
          c.args.row c.args.bound)
          (sym c.in_default-part.is)
          (choose.second_refused c.args.forms.now c.args.shapes.now c.args.pool.now c.args.bindings.now
          c.args.row c.args.bound c.requires.choose c.requires.form_asked c.check_form-part.new.bindings
          c.check_form-part.result c.check_form-part.ensures.checked c.in-Ok.is
          (ap (λ (x : ℕ). c.args.row + 3 + x) c.size.ensures.read) c.check_form-part-2.new.bindings
          c.check_form-part-2.result c.check_form-part-2.ensures.checked c.in_default-part.is);
    }

pub check_if-overflow_add-third : goal.check_if-overflow_add-third
check_if-overflow_add-third t c =
    let e = choose.choose_ends c.args.forms.now c.args.shapes.now c.args.pool.now c.args.bindings.now
    c.args.row c.args.bound c.requires.choose c.requires.form_asked in
    let third = (ap (λ (x : ℕ). c.args.row + 3 + c.size.result + x) c.size-2.ensures.read
    ∙ ap (λ (x : ℕ). x + size_at c.args.forms.now x) (ap (λ (x : ℕ). c.args.row + 3 + x) c.size.ensures.read)) in
    omega (arith, e.1, third, c.well_formed)

pub check_if-check_form-part-requires-3 : goal.check_if-check_form-part-requires-3
check_if-check_form-part-requires-3 t c =
    let e = choose.choose_ends c.args.forms.now c.args.shapes.now c.args.pool.now c.args.bindings.now
    c.args.row c.args.bound c.requires.choose c.requires.form_asked in
    let third = (ap (λ (x : ℕ). c.args.row + 3 + c.size.result + x) c.size-2.ensures.read
    ∙ ap (λ (x : ℕ). x + size_at c.args.forms.now x) (ap (λ (x : ℕ). c.args.row + 3 + x) c.size.ensures.read)) in (
      omega (arith, e.1, third, c.decreases),
      (
        choose.third_asked c.args.forms.now c.args.shapes.now c.args.pool.now c.args.bindings.now
            c.args.row c.args.bound c.requires.choose c.requires.form_asked c.check_form-part.new.bindings
            c.check_form-part.result c.check_form-part.ensures.checked c.in-Ok.is
            (ap (λ (x : ℕ). c.args.row + 3 + x) c.size.ensures.read) c.check_form-part-2.new.bindings
            c.check_form-part-2.result c.check_form-part-2.ensures.checked c.in-Ok-part.is
            (ap (λ (x : ℕ). c.args.row + 3 + c.size.result + x) c.size-2.ensures.read
            ∙ ap (λ (x : ℕ). x + size_at c.args.forms.now x) (ap (λ (x : ℕ). c.args.row + 3 + x) c.size.ensures.read)),
        c.requires.small,
      ),
    )

pub check_if-returns-in_default-part-2 : goal.check_if-returns-in_default-part-2
check_if-returns-in_default-part-2 t c =
    record {
      checked = subst (GivesForm c.args.forms.now c.args.shapes.now c.args.pool.now c.args.bindings.now c.check_form-part-3.new.bindings
          c.args.row c.args.bound)
          (sym c.in_default-part-2.is)
          (choose.third_refused c.args.forms.now c.args.shapes.now c.args.pool.now c.args.bindings.now
          c.args.row c.args.bound c.requires.choose c.requires.form_asked c.check_form-part.new.bindings
          c.check_form-part.result c.check_form-part.ensures.checked c.in-Ok.is
          (ap (λ (x : ℕ). c.args.row + 3 + x) c.size.ensures.read) c.check_form-part-2.new.bindings
          c.check_form-part-2.result c.check_form-part-2.ensures.checked c.in-Ok-part.is
          (ap (λ (x : ℕ). c.args.row + 3 + c.size.result + x) c.size-2.ensures.read
          ∙ ap (λ (x : ℕ). x + size_at c.args.forms.now x) (ap (λ (x : ℕ). c.args.row + 3 + x) c.size.ensures.read))
          c.check_form-part-3.new.bindings c.check_form-part-3.result c.check_form-part-3.ensures.checked
          c.in_default-part-2.is);
    }

pub check_if-returns : goal.check_if-returns
check_if-returns t c =
    record {
      checked = choose.choose_told c.args.forms.now c.args.shapes.now c.args.pool.now c.args.bindings.now
          c.args.row c.args.bound c.requires.choose c.requires.form_asked c.check_form-part.new.bindings
          c.check_form-part.result c.check_form-part.ensures.checked c.in-Ok.is
          (ap (λ (x : ℕ). c.args.row + 3 + x) c.size.ensures.read) c.check_form-part-2.new.bindings
          c.check_form-part-2.result c.check_form-part-2.ensures.checked c.in-Ok-part.is
          (ap (λ (x : ℕ). c.args.row + 3 + c.size.result + x) c.size-2.ensures.read
          ∙ ap (λ (x : ℕ). x + size_at c.args.forms.now x) (ap (λ (x : ℕ). c.args.row + 3 + x) c.size.ensures.read))
          c.check_form-part-3.new.bindings c.check_form-part-3.result c.check_form-part-3.ensures.checked
          c.in-Ok-part-2.is c.place-place.ensures.read c.want.result c.union.ensures.made c.want.ensures.told;
    }

pub check_pack-overflow_add-end : goal.check_pack-overflow_add-end
check_pack-overflow_add-end t c =
    let e = pack.pack_ends c.args.forms.now c.args.shapes.now c.args.pool.now c.args.bindings.now
    c.args.row c.args.bound c.requires.pack c.requires.form_asked in
    omega (arith, e.1, c.size.ensures.read, c.well_formed)

pub check_pack-overflow_add-i : goal.check_pack-overflow_add-i
check_pack-overflow_add-i t c =
    omega (arith, form_within c.requires.form_asked, c.well_formed)

pub check_pack-loop-i-init : goal.check_pack-loop-i-init
check_pack-loop-i-init t c =
    pack.pack_begins c.args.forms.now c.args.shapes.now c.args.pool.now c.args.bindings.now
    c.args.row c.args.bound c.requires.pack c.size.ensures.read c.requires.form_asked

pub check_pack-check_form-part-requires : goal.check_pack-check_form-part-requires
check_pack-check_form-part-requires t c = (
  omega (arith, c.loop-i.invariant.behind, c.decreases, c.loop-i-test.true, form_within c.requires.form_asked),
  (
    pack.part_asked c.args.forms.now c.args.shapes.now c.args.pool.now c.args.bindings.now
        c.args.row c.args.bound c.requires.pack c.size.ensures.read c.requires.form_asked
        c.loop-i.bindings
        c.loop-i.i c.loop-i.invariant c.loop-i-test.true,
    c.requires.small,
  ),
)

pub check_pack-returns-in_default : goal.check_pack-returns-in_default
check_pack-returns-in_default t c =
    record {
      checked = subst (GivesForm c.args.forms.now c.args.shapes.now c.args.pool.now c.args.bindings.now c.check_form-part.new.bindings c.args.row c.args.bound)
          (sym c.in_default.is)
          (pack.pack_refused c.args.forms.now c.args.shapes.now c.args.pool.now c.args.bindings.now
          c.args.row c.args.bound c.requires.pack c.size.ensures.read c.requires.form_asked c.loop-i.bindings
          c.loop-i.i c.loop-i.invariant c.loop-i-test.true c.check_form-part.new.bindings
          c.check_form-part.result c.check_form-part.ensures.checked c.in_default.is);
    }

pub check_pack-overflow_add-i-in-loop-i : goal.check_pack-overflow_add-i-in-loop-i
check_pack-overflow_add-i-in-loop-i t c =
    let whole = pack.pack_ends c.args.forms.now c.args.shapes.now c.args.pool.now c.args.bindings.now
    c.args.row c.args.bound c.requires.pack c.requires.form_asked in
    let e = pack.part_ends c.args.forms.now c.args.shapes.now c.args.pool.now c.args.bindings.now
    c.args.row c.args.bound c.requires.pack c.size.ensures.read c.requires.form_asked c.loop-i.bindings
    c.loop-i.i c.loop-i.invariant c.loop-i-test.true in
    omega (arith, e.1, whole.1, c.size.ensures.read, c.size-i.ensures.read, c.well_formed)

pub check_pack-loop-i-smaller : goal.check_pack-loop-i-smaller
check_pack-loop-i-smaller t c =
    let e = pack.part_ends c.args.forms.now c.args.shapes.now c.args.pool.now c.args.bindings.now
    c.args.row c.args.bound c.requires.pack c.size.ensures.read c.requires.form_asked c.loop-i.bindings
    c.loop-i.i c.loop-i.invariant c.loop-i-test.true in
    omega (arith, e.0, e.1, c.size-i.ensures.read, c.loop-i-test.true)

pub check_pack-loop-i-preserved : goal.check_pack-loop-i-preserved
check_pack-loop-i-preserved t c =
    pack.pack_next c.args.forms.now c.args.shapes.now c.args.pool.now c.args.bindings.now c.args.row
    c.args.bound c.requires.pack c.size.ensures.read c.requires.form_asked c.loop-i.bindings c.loop-i.i
    c.loop-i.invariant c.loop-i-test.true c.check_form-part.new.bindings
    c.check_form-part.result c.check_form-part.ensures.checked c.in-Ok.is c.size-i.ensures.read

pub check_pack-returns : goal.check_pack-returns
check_pack-returns t c =
    record {
      checked = pack.pack_told c.args.forms.now c.args.shapes.now c.args.pool.now c.args.bindings.now c.args.row
          c.args.bound c.requires.pack c.size.ensures.read c.requires.form_asked c.loop-i.bindings
          c.loop-i.i c.loop-i.invariant c.loop-i-test.false;
    }

pub check_when-overflow_add-row : goal.check_when-overflow_add-row
check_when-overflow_add-row t c =
    omega (arith, form_within c.requires.form_asked, c.well_formed)

pub check_when-locate-found-requires : goal.check_when-locate-found-requires
check_when-locate-found-requires t c =
    when.when_place_asked c.args.forms.now c.args.shapes.now c.args.pool.now c.args.bindings.now
    c.args.row c.args.bound c.requires.when c.requires.form_asked

pub check_when-returns-in_default : goal.check_when-returns-in_default
check_when-returns-in_default t c =
    record {
      checked = subst (GivesForm c.args.forms.now c.args.shapes.now c.args.pool.now c.args.bindings.now c.args.bindings.now c.args.row c.args.bound)
          (sym (c.refusal.ensures.passed _ c.in_default.is))
          (when.when_refused c.args.forms.now c.args.shapes.now c.args.pool.now c.args.bindings.now
          c.args.row c.args.bound c.requires.when c.locate-found.result c.locate-found.ensures.found c.in_default.is);
    }

pub check_when-overflow_add-first : goal.check_when-overflow_add-first
check_when-overflow_add-first t c =
    omega (arith, form_within c.requires.form_asked, c.well_formed)

pub check_when-overflow_add-row-2 : goal.check_when-overflow_add-row-2
check_when-overflow_add-row-2 t c =
    omega (arith, form_within c.requires.form_asked, c.well_formed)

pub check_when-overflow_add-first-2 : goal.check_when-overflow_add-first-2
check_when-overflow_add-first-2 t c =
    let e = when.when_ends c.args.forms.now c.args.shapes.now c.args.pool.now c.args.bindings.now
    c.args.row c.args.bound c.requires.when c.requires.form_asked in
    omega (arith, e.0, c.size.ensures.read, c.well_formed)

pub check_when-bind-requires : goal.check_when-bind-requires
check_when-bind-requires t c =
    let e = when.when_ends c.args.forms.now c.args.shapes.now c.args.pool.now c.args.bindings.now
    c.args.row c.args.bound c.requires.when c.requires.form_asked in
    let there = when.row_there c.args.forms.now c.args.shapes.now c.args.pool.now c.args.bindings.now
    c.args.row c.args.bound c.requires.when c.locate-found.result c.locate-found.ensures.found
    c.in-Ok.is c.operand-test.ensures.read c.requires.form_asked in
    let few = when.few_cut c.args.forms.now c.args.shapes.now c.args.pool.now c.args.bindings.now
    c.args.row c.args.bound c.requires.when c.locate-found.result c.locate-found.ensures.found
    c.in-Ok.is c.operand-test.ensures.read c.cut-cut.result.kinds c.cut-cut.ensures.told c.requires.form_asked in
    record { slot_in_bounds = e.2; fits = omega (arith, there, few, c.requires.small) }

pub check_when-overflow_add-bound : goal.check_when-overflow_add-bound
check_when-overflow_add-bound t c =
    let e = when.when_ends c.args.forms.now c.args.shapes.now c.args.pool.now c.args.bindings.now
    c.args.row c.args.bound c.requires.when c.requires.form_asked in
    omega (arith, e.2, c.well_formed)

pub check_when-check_form-part-requires : goal.check_when-check_form-part-requires
check_when-check_form-part-requires t c =
    let e = when.when_ends c.args.forms.now c.args.shapes.now c.args.pool.now c.args.bindings.now
    c.args.row c.args.bound c.requires.when c.requires.form_asked in (
      omega (arith, e.0, c.size.ensures.read, c.decreases),
      (
        when.first_asked c.args.forms.now c.args.shapes.now c.args.pool.now c.args.bindings.now
            c.args.row c.args.bound c.requires.when c.locate-found.result c.locate-found.ensures.found
            c.in-Ok.is c.operand-test.ensures.read c.requires.form_asked c.cut-cut.result.kinds
            c.cut-cut.ensures.told c.bind.new.bindings c.bind.ensures.put
            (ap (λ (x : ℕ). c.args.row + 3 + x) c.size.ensures.read),
        c.requires.small,
      ),
    )

pub check_when-returns-in_default-part : goal.check_when-returns-in_default-part
check_when-returns-in_default-part t c =
    record {
      checked = subst (GivesForm c.args.forms.now c.args.shapes.now c.args.pool.now c.args.bindings.now c.check_form-part.new.bindings c.args.row c.args.bound)
          (sym c.in_default-part.is)
          (when.first_refused c.args.forms.now c.args.shapes.now c.args.pool.now c.args.bindings.now
          c.args.row c.args.bound c.requires.when c.locate-found.result c.locate-found.ensures.found
          c.in-Ok.is c.operand-test.ensures.read c.requires.form_asked c.cut-cut.result.kinds
          c.cut-cut.ensures.told c.bind.new.bindings c.bind.ensures.put
          (ap (λ (x : ℕ). c.args.row + 3 + x) c.size.ensures.read) c.check_form-part.new.bindings
          c.check_form-part.result c.check_form-part.ensures.checked c.in_default-part.is);
    }

pub check_when-overflow_add-second : goal.check_when-overflow_add-second
check_when-overflow_add-second t c =
    let e = when.when_ends c.args.forms.now c.args.shapes.now c.args.pool.now c.args.bindings.now
    c.args.row c.args.bound c.requires.when c.requires.form_asked in
    let first
    : c.args.row + 3 + c.size.result ≡ c.args.row + 3 + size_at c.args.forms.now (c.args.row + 3) =
    (ap (λ (x : ℕ). c.args.row + 3 + x) c.size.ensures.read) in
    let second = (ap (λ (x : ℕ). c.args.row + 3 + c.size.result + x) c.size-2.ensures.read
    ∙ ap (λ (x : ℕ). x + size_at c.args.forms.now x) (ap (λ (x : ℕ). c.args.row + 3 + x) c.size.ensures.read)) in
    omega (arith, e.1, second, c.well_formed)

pub check_when-bind-requires-2 : goal.check_when-bind-requires-2
check_when-bind-requires-2 t c =
    let e = when.when_ends c.args.forms.now c.args.shapes.now c.args.pool.now c.args.bindings.now
    c.args.row c.args.bound c.requires.when c.requires.form_asked in
    let there = when.row_there c.args.forms.now c.args.shapes.now c.args.pool.now c.args.bindings.now
    c.args.row c.args.bound c.requires.when c.locate-found.result c.locate-found.ensures.found
    c.in-Ok.is c.operand-test.ensures.read c.requires.form_asked in
    let few = when.few_out c.args.forms.now c.args.shapes.now c.args.pool.now c.args.bindings.now
    c.args.row c.args.bound c.requires.when c.locate-found.result c.locate-found.ensures.found
    c.in-Ok.is c.operand-test.ensures.read c.taken_out-rest.result.kinds c.taken_out-rest.ensures.told c.requires.form_asked in record {
      slot_in_bounds = when.still_there c.args.forms.now c.args.shapes.now c.args.pool.now c.args.bindings.now
          c.args.row c.args.bound c.requires.when c.locate-found.result c.locate-found.ensures.found
          c.in-Ok.is c.operand-test.ensures.read c.requires.form_asked c.cut-cut.result.kinds
          c.cut-cut.ensures.told c.bind.new.bindings c.bind.ensures.put
          (ap (λ (x : ℕ). c.args.row + 3 + x) c.size.ensures.read) c.check_form-part.new.bindings
          c.check_form-part.result c.check_form-part.ensures.checked;
      fits = omega (arith, there, few, c.requires.small);
    }

pub check_when-overflow_add-bound-2 : goal.check_when-overflow_add-bound-2
check_when-overflow_add-bound-2 t c =
    let e = when.when_ends c.args.forms.now c.args.shapes.now c.args.pool.now c.args.bindings.now
    c.args.row c.args.bound c.requires.when c.requires.form_asked in
    omega (arith, e.2, c.well_formed)

pub check_when-check_form-part-requires-2 : goal.check_when-check_form-part-requires-2
check_when-check_form-part-requires-2 t c =
    let e = when.when_ends c.args.forms.now c.args.shapes.now c.args.pool.now c.args.bindings.now
    c.args.row c.args.bound c.requires.when c.requires.form_asked in
    let second = (ap (λ (x : ℕ). c.args.row + 3 + c.size.result + x) c.size-2.ensures.read
    ∙ ap (λ (x : ℕ). x + size_at c.args.forms.now x) (ap (λ (x : ℕ). c.args.row + 3 + x) c.size.ensures.read)) in (
      omega (arith, e.1, second, c.decreases),
      (
        when.second_asked c.args.forms.now c.args.shapes.now c.args.pool.now c.args.bindings.now
            c.args.row c.args.bound c.requires.when c.locate-found.result c.locate-found.ensures.found
            c.in-Ok.is c.operand-test.ensures.read c.requires.form_asked c.cut-cut.result.kinds
            c.cut-cut.ensures.told c.bind.new.bindings c.bind.ensures.put
            (ap (λ (x : ℕ). c.args.row + 3 + x) c.size.ensures.read) c.check_form-part.new.bindings
            c.check_form-part.result c.check_form-part.ensures.checked c.in-Ok-part.is
            c.taken_out-rest.result.kinds c.taken_out-rest.ensures.told c.bind-2.new.bindings c.bind-2.ensures.put
            (ap (λ (x : ℕ). c.args.row + 3 + c.size.result + x) c.size-2.ensures.read
            ∙ ap (λ (x : ℕ). x + size_at c.args.forms.now x) (ap (λ (x : ℕ). c.args.row + 3 + x) c.size.ensures.read)),
        c.requires.small,
      ),
    )

pub check_when-returns-in_default-part-2 : goal.check_when-returns-in_default-part-2
check_when-returns-in_default-part-2 t c =
    record {
      checked = subst (GivesForm c.args.forms.now c.args.shapes.now c.args.pool.now c.args.bindings.now c.check_form-part-2.new.bindings
          c.args.row c.args.bound)
          (sym c.in_default-part-2.is)
          (when.second_refused c.args.forms.now c.args.shapes.now c.args.pool.now c.args.bindings.now
          c.args.row c.args.bound c.requires.when c.locate-found.result c.locate-found.ensures.found
          c.in-Ok.is c.operand-test.ensures.read c.requires.form_asked c.cut-cut.result.kinds
          c.cut-cut.ensures.told c.bind.new.bindings c.bind.ensures.put
          (ap (λ (x : ℕ). c.args.row + 3 + x) c.size.ensures.read) c.check_form-part.new.bindings
          c.check_form-part.result c.check_form-part.ensures.checked c.in-Ok-part.is c.taken_out-rest.result.kinds
          c.taken_out-rest.ensures.told c.bind-2.new.bindings c.bind-2.ensures.put
          (ap (λ (x : ℕ). c.args.row + 3 + c.size.result + x) c.size-2.ensures.read
          ∙ ap (λ (x : ℕ). x + size_at c.args.forms.now x) (ap (λ (x : ℕ). c.args.row + 3 + x) c.size.ensures.read))
          c.check_form-part-2.new.bindings c.check_form-part-2.result c.check_form-part-2.ensures.checked
          c.in_default-part-2.is);
    }

pub check_when-returns : goal.check_when-returns
check_when-returns t c =
    record {
      checked = when.when_told c.args.forms.now c.args.shapes.now c.args.pool.now c.args.bindings.now c.args.row
          c.args.bound c.requires.when c.locate-found.result c.locate-found.ensures.found
          c.in-Ok.is c.operand-test.ensures.read c.requires.form_asked c.cut-cut.result.kinds
          c.cut-cut.ensures.told c.bind.new.bindings c.bind.ensures.put
          (ap (λ (x : ℕ). c.args.row + 3 + x) c.size.ensures.read) c.check_form-part.new.bindings
          c.check_form-part.result c.check_form-part.ensures.checked c.in-Ok-part.is c.taken_out-rest.result.kinds
          c.taken_out-rest.ensures.told c.bind-2.new.bindings c.bind-2.ensures.put
          (ap (λ (x : ℕ). c.args.row + 3 + c.size.result + x) c.size-2.ensures.read
          ∙ ap (λ (x : ℕ). x + size_at c.args.forms.now x) (ap (λ (x : ℕ). c.args.row + 3 + x) c.size.ensures.read))
          c.check_form-part-2.new.bindings c.check_form-part-2.result c.check_form-part-2.ensures.checked
          c.in-Ok-part-2.is c.union.ensures.made;
    }
