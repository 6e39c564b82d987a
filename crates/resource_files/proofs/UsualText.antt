-- The text of the usual file says a store and a broker.
use Rattle.std.proofs.Common.{◌≡◌, ◌≢◌, ◌+◌, ◌<◌, arith, ℕ, true, false, List, [], Result, Ok, refl, sym, ap, subst}
use Rattle.std.specs.Prelude.{IsUtf8, bytes_eq, codes}
use Rattle.std.specs.Str.{is_utf8, chars}
use Rattle.std.proofs.lemmas.Bool.Decides.{not_from_Decides}
use Rattle.std.proofs.lemmas.Slice.Eq.{bytes_eq-Decides}
use lib.Utf8.{encode}
use Rattle.yaml_subset.specs.declared.open.Holder.TheVariants.{File, Mapping}
use Rattle.yaml_subset.specs.Blank.{is_mark, is_mark_tail, is_passed_over, is_tail}
use Rattle.yaml_subset.specs.Contents.{contents}
use Rattle.yaml_subset.specs.Docs.{Shows}
use Rattle.yaml_subset.specs.File.{without_order_mark, file_lines, IsFile}
use Rattle.yaml_subset.specs.Layout.{marks, Lacks, Fits}
use Rattle.yaml_subset.specs.Line.{AreClean, line_marks, marks_of}
use Rattle.yaml_subset.specs.LineText.{cut, name_at, value_behind}
use Rattle.yaml_subset.specs.Plain.{trimmed, comment_place, colon_place}
use Rattle.yaml_subset.specs.Tree.{Forest, empty, grows, leaf, rows}
use Rattle.yaml_subset.specs.Trees.{Trees, plain}
use Rattle.yaml_subset.specs.ValueText.{text_leaf, value_text}
use Rattle.resource_spec.specs.Component.{Loaded}
use Rattle.resource_spec.specs.Load.{loaded, IsSpecErr}
use Rattle.resource_spec.specs.declared.spec_err.SpecErr.{SpecErr}
use Rattle.resource_spec.specs.declared.spec_err.SpecErr.TheVariants.{Missing, Wrong, Repeated, SecretRef, UnknownType, NoMemory, TooMany}
use Rattle.yaml_subset.specs.declared.error.YamlErr.{YamlErr}
use Rattle.yaml_subset.specs.declared.error.YamlErr.TheVariants as yaml
use Rattle.resource_files.specs.Refusals.{yaml_wants_memory, components_want_memory}
use Rattle.resource_files.specs.Usual.{usual_components}

unfoldable pub usual_text : List ℕ
usual_text = codes "apiVersion: dapr.io/v1alpha1\nkind: Component\nmetadata:\n  name: statestore\nspec:\n  type: state.in-memory\n  version: v1\n---\napiVersion: dapr.io/v1alpha1\nkind: Component\nmetadata:\n  name: pubsub\nspec:\n  type: pubsub.in-memory\n  version: v1\n"

-- a member with a text in a column of its line
abbrev member : ℕ → List ℕ → ℕ → List ℕ → Forest → Forest
member line name place text later = grows line name (leaf line place (text_leaf true text)) empty later

-- a member with members below it
abbrev group : ℕ → List ℕ → Forest → Forest → Forest
group line name inner later = grows line name (rows Mapping 3) inner later

-- what a document that begins on a line, and has this name and type, has from each of its members on
abbrev version_on : ℕ → Forest
version_on line = member (line + 6) (codes "version") 12 (codes "v1") empty

abbrev type_on : ℕ → List ℕ → Forest
type_on line type = member (line + 5) (codes "type") 9 type (version_on line)

abbrev name_on : ℕ → List ℕ → Forest
name_on line name = member (line + 3) (codes "name") 9 name empty

abbrev spec_on : ℕ → List ℕ → Forest
spec_on line type = group (line + 4) (codes "spec") (type_on line type) empty

abbrev metadata_on : ℕ → List ℕ → List ℕ → Forest
metadata_on line name type = group (line + 2) (codes "metadata") (name_on line name) (spec_on line type)

abbrev kind_on : ℕ → List ℕ → List ℕ → Forest
kind_on line name type = member (line + 1) (codes "kind") 7 (codes "Component") (metadata_on line name type)

abbrev members : ℕ → List ℕ → List ℕ → Forest
members line name type = member line (codes "apiVersion") 13 (codes "dapr.io/v1alpha1") (kind_on line name type)

abbrev document : ℕ → List ℕ → List ℕ → Forest → Forest
document line name type later = grows line [] (rows Mapping 1) (members line name type) later

abbrev layout : Forest
layout = document 1 (codes "statestore") (codes "state.in-memory") (document 9 (codes "pubsub") (codes "pubsub.in-memory") empty)

-- the documents of the text
pub usual_documents : Trees
usual_documents = plain layout

differs : (name other : List ℕ) → bytes_eq name other ≡ false → name ≢ other
differs name other = not_from_Decides (bytes_eq name other) (bytes_eq-Decides name other)

member_fits : (level column line : ℕ) (name : List ℕ) (place : ℕ) (text : List ℕ) (later : Forest) → column < place → Lacks name later → Fits level Mapping column later
    → Fits level Mapping column (member line name place text later)
unfolding Fits
member_fits level column line name place text later deeper lacks fits = ((refl, deeper, λ nests. absurd (cc)), lacks, fits)

group_fits : (line : ℕ) (name : List ℕ) (inner later : Forest) → inner ≢ empty → Lacks name later → Fits 1 Mapping 1 later → Fits 2 Mapping 3 inner → Fits 1 Mapping 1 (group line name inner later)
unfolding Fits
group_fits line name inner later some lacks fits below = ((some, refl, omega arith), lacks, fits, below)

spec_fits : (line : ℕ) (type : List ℕ) → Fits 1 Mapping 1 (spec_on line type)
unfolding Fits Lacks
spec_fits line type =
    group_fits (line + 4) (codes "spec") (type_on line type) empty (λ same. absurd (cc)) tt tt
    (member_fits 2 3 (line + 5) (codes "type") 9 type (version_on line) (omega arith) (differs (codes "type") (codes "version") refl, tt)
    (member_fits 2 3 (line + 6) (codes "version") 12 (codes "v1") empty (omega arith) tt tt))

metadata_fits : (line : ℕ) (name type : List ℕ) → Fits 1 Mapping 1 (metadata_on line name type)
unfolding Fits Lacks
metadata_fits line name type =
    group_fits (line + 2) (codes "metadata") (name_on line name) (spec_on line type) (λ same. absurd (cc)) (differs (codes "metadata") (codes "spec") refl, tt) (spec_fits line type)
    (member_fits 2 3 (line + 3) (codes "name") 9 name empty (omega arith) tt tt)

members_fit : (line : ℕ) (name type : List ℕ) → Fits 1 Mapping 1 (members line name type)
unfolding Lacks
members_fit line name type =
    let lacks : (other : List ℕ) → bytes_eq other (codes "metadata") ≡ false → bytes_eq other (codes "spec") ≡ false → Lacks other (metadata_on line name type) = λ other metadata spec. (differs other (codes "metadata") metadata, (differs other (codes "spec") spec, tt)) in
    member_fits 1 1 line (codes "apiVersion") 13 (codes "dapr.io/v1alpha1") (kind_on line name type) (omega arith) (differs (codes "apiVersion") (codes "kind") refl, lacks (codes "apiVersion") refl refl)
    (member_fits 1 1 (line + 1) (codes "kind") 7 (codes "Component") (metadata_on line name type) (omega arith) (lacks (codes "kind") refl refl) (metadata_fits line name type))

document_fits : (line : ℕ) (name type : List ℕ) (later : Forest) → Fits 0 File 0 later → Fits 0 File 0 (document line name type later)
unfolding Fits
document_fits line name type later fits = (((λ same. absurd (cc)), refl, omega arith), refl, fits, members_fit line name type)

layout_fits : Fits 0 File 0 layout
unfolding Fits
layout_fits = document_fits 1 (codes "statestore") (codes "state.in-memory") (document 9 (codes "pubsub") (codes "pubsub.in-memory") empty) (document_fits 9 (codes "pubsub") (codes "pubsub.in-memory") empty tt)

are_clean : AreClean (file_lines usual_text)
unfolding usual_text without_order_mark contents is_mark is_mark_tail is_passed_over cut name_at value_behind is_tail value_text trimmed comment_place colon_place AreClean
are_clean = (
  record { no_tab = refl {a = false}; name = tt; value = tt },
  (
    record { no_tab = refl {a = false}; name = tt; value = tt },
    (
      record { no_tab = refl {a = false}; name = tt; value = tt },
      (
        record { no_tab = refl {a = false}; name = tt; value = tt },
        (
          record { no_tab = refl {a = false}; name = tt; value = tt },
          (
            record { no_tab = refl {a = false}; name = tt; value = tt },
            (
              record { no_tab = refl {a = false}; name = tt; value = tt },
              (
                record { no_tab = refl {a = false}; name = tt; value = tt },
                (
                  record { no_tab = refl {a = false}; name = tt; value = tt },
                  (
                    record { no_tab = refl {a = false}; name = tt; value = tt },
                    (
                      record { no_tab = refl {a = false}; name = tt; value = tt },
                      (
                        record { no_tab = refl {a = false}; name = tt; value = tt },
                        (
                          record { no_tab = refl {a = false}; name = tt; value = tt },
                          (record { no_tab = refl {a = false}; name = tt; value = tt }, tt),
                        ),
                      ),
                    ),
                  ),
                ),
              ),
            ),
          ),
        ),
      ),
    ),
  ),
)

marks_are : marks_of (file_lines usual_text) ≡ marks File 0 layout
unfolding usual_text without_order_mark contents is_mark is_mark_tail is_passed_over cut name_at value_behind is_tail value_text trimmed comment_place colon_place line_marks marks_of marks
marks_are = refl

is_text : IsUtf8 usual_text
unfolding usual_text encode
is_text = (usual_text, (refl, refl))

pub is_file : IsFile usual_text usual_documents
unfolding usual_documents
is_file = record { utf8 = is_text; layout = layout; says = record { clean = are_clean; marks_are = marks_are; fits = layout_fits }; are = refl }

loads : (app : List ℕ) → loaded app 0 [] usual_documents ≡ Ok usual_components
unfolding usual_documents plain is_utf8 chars encode
loads app = refl

one_ok : (r : Result (List Loaded) SpecErr) (a b : List Loaded) → r ≡ Ok a → r ≡ Ok b → a ≡ b
one_ok r a b x y = cc

-- what is read isn't refused but for want of memory
memory_alone : (r : Result (List Loaded) SpecErr) (components : List Loaded) (e : SpecErr) → r ≡ Ok components → IsSpecErr e r → components_want_memory e ≡ true
memory_alone r components (Missing doc field) said is = absurd (cc)
memory_alone r components (Wrong doc field) said is = absurd (cc)
memory_alone r components (Repeated name) said is = absurd (cc)
memory_alone r components (SecretRef name) said is = absurd (cc)
memory_alone r components (UnknownType name) said is = absurd (cc)
memory_alone r components (TooMany count) said is = absurd (cc)
memory_alone r components NoMemory said is = refl

-- a text that is this one says the usual components, for any app, and is refused for want of memory alone
module _ (app bytes : List ℕ) (same : bytes ≡ usual_text) where
  says_usual : (documents : Trees) → Shows documents bytes → loaded app 0 [] documents ≡ Ok usual_components
  says_usual documents shows = subst (λ (trees : Trees). loaded app 0 [] trees ≡ Ok usual_components) (shows.only usual_documents (subst (λ (text : List ℕ). IsFile text usual_documents) (sym same) is_file)) (loads app)

  pub usual_said : (documents : Trees) (components : List Loaded) → Shows documents bytes → loaded app 0 [] documents ≡ Ok components → components ≡ usual_components
  usual_said documents components shows said = one_ok (loaded app 0 [] documents) components usual_components said (says_usual documents shows)

  pub no_spec_refusal : (documents : Trees) (e : SpecErr) → Shows documents bytes → IsSpecErr e (loaded app 0 [] documents) → components_want_memory e ≡ true
  no_spec_refusal documents e shows is = memory_alone (loaded app 0 [] documents) usual_components e (says_usual documents shows) is

  pub no_yaml_refusal : (e : YamlErr) → ((documents : Trees) → IsFile bytes documents → e ≡ yaml.NoMemory) → yaml_wants_memory e ≡ true
  no_yaml_refusal e only = ap yaml_wants_memory (only usual_documents (subst (λ (text : List ℕ). IsFile text usual_documents) (sym same) is_file))
