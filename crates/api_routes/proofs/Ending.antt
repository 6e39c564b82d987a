-- Which target means that the sidecar ends.
use Rattle.std.proofs.Common.{◌≡◌, ◌↔◌, nat_eq, inl, inr, ◌&&◌, not, ℕ, zero, suc, Bool, true, false, List, [], ◌∷◌, codes, refl, sym, subst, ◌∙◌}
use Rattle.std.proofs.lemmas.Bool.{eq-eqb}
use Rattle.std.specs.Cmp.Lexicographic.{pointwise, same_text}
use Rattle.side_base.specs.declared.method.Method.{Method}
use Rattle.side_base.specs.declared.method.Method.TheVariants.{Get, Head, Post, Put, Patch, Delete, Options, Other}
use Rattle.api_routes.specs.declared.route.Route.TheVariants as route
use Rattle.api_routes.specs.declared.table.Kind.TheVariants as kind
use Rattle.api_routes.specs.Methods.{has}
use Rattle.api_routes.specs.Path.{IsClean, Spells, is_bad_start, path_of}
use Rattle.api_routes.specs.Route.{Fits, IsAmong, Means}
use Rattle.api_routes.specs.Table.{RouteRow, post_alone, table}
use Rattle.api_routes.specs.Table.Part.{Literal}
use Rattle.api_routes.proofs.Tables.{fits-one}

abbrev pub ending : List ℕ
ending = codes "/v1.0/shutdown"

all_good : List ℕ → Bool
all_good [] = true
all_good (byte ∷ rest) = not (is_bad_start (byte ∷ rest)) && all_good rest

both : (a b : Bool) → (a && b) ≡ true → (a ≡ true) × (b ≡ true)
both true b e = (refl, e)
both false b e = absurd (cc)

not-true : (b : Bool) → not b ≡ true → b ≡ false
not-true true e = absurd (cc)
not-true false e = refl

good-at : (path : List ℕ) → all_good path ≡ true → IsClean path
unfolding all_good
good-at [] good zero = refl
good-at [] good (suc at) = refl
good-at (byte ∷ rest) good zero = not-true (is_bad_start (byte ∷ rest)) (both (not (is_bad_start (byte ∷ rest))) (all_good rest) good).0
good-at (byte ∷ rest) good (suc at) = good-at rest (both (not (is_bad_start (byte ∷ rest))) (all_good rest) good).1 at

ending-clean : IsClean ending
unfolding all_good
ending-clean = good-at ending refl

abbrev pub ends-row : RouteRow
ends-row = record { methods = post_alone; parts = Literal (codes "v1.0") ∷ Literal (codes "shutdown") ∷ []; kind = kind.Shutdown }

ends-listed : IsAmong ends-row table
unfolding table
ends-listed = inr (inr (inr (inr (inr (inr (inr (inr (inr (inr (inr (inl refl)))))))))))

ends-fits : (path : List ℕ) → path ≡ ending → Fits Post path ends-row []
ends-fits path path_is = record { listed = ends-listed; allowed = refl; spells = record { are_values = refl; path_is = path_is } }

pub ends : (target : List ℕ) → path_of target ≡ ending → Means Post target route.Shutdown
ends target path_is =
    record {
      clean = subst IsClean (sym path_is) ending-clean;
      row = ends-row;
      values = [];
      is_row = record {
        fits = ends-fits (path_of target) path_is;
        best = λ other others fits. inl (fits-one Post (path_of target) ends-row other [] others (ends-fits (path_of target) path_is) fits);
      };
      texts = tt;
      says = refl;
    }

post-only : (m : Method) → has post_alone m ≡ true → m ≡ Post
post-only Post e = refl
post-only Get e = absurd (cc)
post-only Head e = absurd (cc)
post-only Put e = absurd (cc)
post-only Patch e = absurd (cc)
post-only Delete e = absurd (cc)
post-only Options e = absurd (cc)
post-only Other e = absurd (cc)

abbrev pub EndsOnly : Method → List ℕ → List (List ℕ) → RouteRow → Type 0
EndsOnly m path values row = row.kind ≡ kind.Shutdown → has row.methods m ≡ true → Spells row.parts values path → (m ≡ Post) × (path ≡ ending)

only-at : (m : Method) (path : List ℕ) (values : List (List ℕ)) (row : RouteRow) → IsAmong row table → EndsOnly m path values row
unfolding table
only-at m path values row (inl e) = subst (EndsOnly m path values) (sym e) (λ says allowed spells. absurd (cc))
only-at m path values row (inr (inl e)) = subst (EndsOnly m path values) (sym e) (λ says allowed spells. absurd (cc))
only-at m path values row (inr (inr (inl e))) = subst (EndsOnly m path values) (sym e) (λ says allowed spells. absurd (cc))
only-at m path values row (inr (inr (inr (inl e)))) = subst (EndsOnly m path values) (sym e) (λ says allowed spells. absurd (cc))
only-at m path values row (inr (inr (inr (inr (inl e))))) = subst (EndsOnly m path values) (sym e) (λ says allowed spells. absurd (cc))
only-at m path values row (inr (inr (inr (inr (inr (inl e)))))) = subst (EndsOnly m path values) (sym e) (λ says allowed spells. absurd (cc))
only-at m path values row (inr (inr (inr (inr (inr (inr (inl e))))))) = subst (EndsOnly m path values) (sym e) (λ says allowed spells. absurd (cc))
only-at m path values row (inr (inr (inr (inr (inr (inr (inr (inl e)))))))) = subst (EndsOnly m path values) (sym e) (λ says allowed spells. absurd (cc))
only-at m path values row (inr (inr (inr (inr (inr (inr (inr (inr (inl e))))))))) = subst (EndsOnly m path values) (sym e) (λ says allowed spells. absurd (cc))
only-at m path values row (inr (inr (inr (inr (inr (inr (inr (inr (inr (inl e)))))))))) = subst (EndsOnly m path values) (sym e) (λ says allowed spells. absurd (cc))
only-at m path values row (inr (inr (inr (inr (inr (inr (inr (inr (inr (inr (inl e))))))))))) = subst (EndsOnly m path values) (sym e) (λ says allowed spells. absurd (cc))
only-at m path values row (inr (inr (inr (inr (inr (inr (inr (inr (inr (inr (inr (inl e)))))))))))) = subst (EndsOnly m path values) (sym e) (λ says allowed spells. (post-only m allowed, spells.path_is))
only-at m path values row (inr (inr (inr (inr (inr (inr (inr (inr (inr (inr (inr (inr (inl e))))))))))))) = subst (EndsOnly m path values) (sym e) (λ says allowed spells. absurd (cc))
only-at m path values row (inr (inr (inr (inr (inr (inr (inr (inr (inr (inr (inr (inr (inr (inl e)))))))))))))) = subst (EndsOnly m path values) (sym e) (λ says allowed spells. absurd (cc))
only-at m path values row (inr (inr (inr (inr (inr (inr (inr (inr (inr (inr (inr (inr (inr (inr (inl e))))))))))))))) = subst (EndsOnly m path values) (sym e) (λ says allowed spells. absurd (cc))
only-at m path values row (inr (inr (inr (inr (inr (inr (inr (inr (inr (inr (inr (inr (inr (inr (inr h))))))))))))))) = absurd h

pub only-ends : (m : Method) (target : List ℕ) → Means m target route.Shutdown → (m ≡ Post) × (path_of target ≡ ending)
only-ends m target means =
    only-at m (path_of target) means.values means.row means.is_row.fits.listed means.says means.is_row.fits.allowed means.is_row.fits.spells

same-bytes : (text : List ℕ) → pointwise nat_eq text text ≡ true
same-bytes [] = refl
same-bytes (byte ∷ text) = rw (eq-eqb byte byte refl) (same-bytes text)

-- a test of the path tells whether the sidecar ends
pub ending-told : (m : Method) (target path bytes : List ℕ) (result : Bool) → m ≡ Post → path ≡ path_of target → bytes ≡ ending → result ≡ pointwise nat_eq path bytes → (result ≡ true) ↔ Means m target route.Shutdown
ending-told m target path bytes result post path_is bytes_are told = (
  (λ yes.
      let same : path ≡ bytes = same_text path bytes (sym yes ∙ told) in
      let P : Method → Type 0 = λ m. Means m target route.Shutdown in
      subst P (sym post) (ends target (sym path_is ∙ (same ∙ bytes_are)))),
  (λ means.
      let both_are = only-ends m target means in
      let whole : path ≡ bytes = path_is ∙ (both_are.1 ∙ sym bytes_are) in
      told ∙ rw whole (same-bytes bytes)),
)
