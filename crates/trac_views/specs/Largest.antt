-- The largest forms, and what is told of them.
use Rattle.std.specs.Prelude.{ℕ, ◌==◌, ◌&&◌, Bool, true, List, [], ◌∷◌, ◌++◌, Option, Some, None}
use Rattle.std.specs.Prelude.{zero, suc, codes, decimal, nat_lt, if◌then◌else◌}
use Rattle.std.specs.Option.{option_map_or}
use Rattle.trac_language.specs.Form.{Form}
use Rattle.trac_language.specs.Store.{form_cells}
use Rattle.trac_language.specs.Text.{Text}
use Rattle.trac_events.specs.Places.{one_more}
use Rattle.trac_views.specs.declared.largest.SizedForm.{SizedForm}
use Rattle.trac_views.specs.Shown.{cut_text}

-- the line of a form of `cells` cells
abbrev pub sized_line : ℕ → ℕ → Text → List ℕ
sized_line width cells name =
    codes "form of " ++ decimal cells ++ codes " cells: " ++ cut_text width name ++ codes "\n"

-- whether a form comes behind the one that was told last: it has fewer cells, or as many and a later place
abbrev pub comes_behind : SizedForm → Option SizedForm → Bool
comes_behind form None = true
comes_behind form (Some last) =
    if form.cells == last.cells then nat_lt last.place form.place else nat_lt form.cells last.cells

-- whether a form is larger than the one that was found
abbrev pub is_larger : SizedForm → Option SizedForm → Bool
is_larger form None = true
is_larger form (Some found) = nat_lt found.cells form.cells

-- the larger of `next` and what was `found` before, among the forms that come behind the one told last
abbrev pub better : SizedForm → Option SizedForm → Option SizedForm → Option SizedForm
better next last found =
    if comes_behind next last && is_larger next found then Some next else found

-- the largest of the forms from `place` on that come behind the form `last`, and of what was `found` before;
-- of forms of one size the first
abbrev pub next_largest : Option SizedForm → ℕ → List Form → Option SizedForm → Option SizedForm
next_largest last place [] found = found
next_largest last place (form ∷ forms) found =
    next_largest last (one_more place) forms
    (better (record { cells = form_cells form; place = place }) last found)

-- the line of the form `sized`, sought among the forms from `place` on
abbrev pub form_at_text : ℕ → SizedForm → ℕ → List Form → List ℕ
form_at_text width sized place [] = []
form_at_text width sized place (form ∷ forms) =
    if place == sized.place then sized_line width sized.cells form.name
    else form_at_text width sized (one_more place) forms

-- the lines of at most as many forms as the second number, behind the one told last, the largest one first
abbrev pub largest_text : ℕ → ℕ → Option SizedForm → List Form → List ℕ
largest_text width zero last forms = []
largest_text width (suc k) last forms =
    option_map_or
    (λ next. form_at_text width next 0 forms ++ largest_text width k (Some next) forms)
    (next_largest last 0 forms None) []
