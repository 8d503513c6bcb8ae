-- A map with text keys as files.
use Rattle.std.proofs.Common.{◌≡◌, List, ℕ, [], ◌∷◌, refl, ap, sym, ◌∙◌, Some, map, cond, String}
use Rattle.std.specs.Ordering.{nat_cmp, eq_by_cmp}
use Rattle.std.specs.Cmp.{eq_by_cmp_equiv}
use Rattle.std.specs.Cmp.Lexicographic.{slice_cmp, nat_list_cmp_total, texts_ties}
use Rattle.std.specs.String.{string_bytes, string_cmp}
use Rattle.std.specs.Map.{lookup}
use Rattle.std.specs.BTreeMap.{BTreeMap, is_at, get_by_text, UpdatesBy}
use Rattle.std.specs.FinMap.{get, insert, find, get-from_entries, get-insert, same_map, slice_cmp-IsAntisymmetric, nat_cmp-IsAntisymmetric}
use Rattle.std.proofs.lemmas.Map.Text.{btree_map_updates_text}
use Rattle.qed_io.specs.Files.{files_of}

found :
    {A : Type 0} (es : List (String A × List ℕ)) (q : List ℕ)
    → find (slice_cmp nat_cmp) q (map (λ e. (string_bytes e.0, e.1)) es) ≡ lookup (is_at (λ k. slice_cmp nat_cmp q (string_bytes k))) es
found [] q = refl
found (e ∷ es) q = ap (cond (is_at (λ k. slice_cmp nat_cmp q (string_bytes k)) e.0) (Some e.1)) (found es q)

-- a look-up by text finds the file
pub get-files_of : {A : Type 0} (m : BTreeMap (String A) (List ℕ)) (q : List ℕ) → get (files_of m.entries) q ≡ get_by_text m q
get-files_of m q = get-from_entries nat_list_cmp_total _ q ∙ found m.entries q

-- a change at one name is an insertion
pub files_of-insert :
    {A : Type 0} (m n : BTreeMap (String A) (List ℕ)) (name bytes : List ℕ)
    → UpdatesBy string_cmp (λ k. slice_cmp nat_cmp name (string_bytes k)) m n (Some bytes)
    → files_of n.entries ≡ insert (files_of m.entries) name bytes
files_of-insert m n name bytes h = same_map nat_list_cmp_total (slice_cmp-IsAntisymmetric nat_cmp-IsAntisymmetric) _ _ (λ q.
    get-files_of n q
    ∙ btree_map_updates_text name m n (Some bytes) h q
    ∙ ap (λ b. cond b (Some bytes) (get_by_text m q)) (texts_ties name q ∙ (eq_by_cmp_equiv nat_list_cmp_total).symm name q)
    ∙ sym (get-insert nat_list_cmp_total (files_of m.entries) name bytes q ∙ ap (cond (eq_by_cmp (slice_cmp nat_cmp) q name) (Some bytes)) (get-files_of m q)))
