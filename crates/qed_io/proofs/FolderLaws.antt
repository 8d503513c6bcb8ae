-- What the calls of a replacement do to a folder, one after the other.
use Rattle.std.proofs.Common.{◌≡◌, ◌≢◌, inl, inr, ⊎_elim, ◌++◌, ℕ, List, [], true, false, Option, Some, None, Result, Ok, Err, sym, ap, ◌∙◌, subst}
use Rattle.std.specs.Prelude.{Bool, IfSome, IsSomeAnd, OnErr}
use Rattle.qed_io.specs.Counts.{Rose}
use Rattle.qed_io.specs.Folder.{FolderState, LeadsTold, Stays, IsEmptyFile, HasRights, Appends, IsSynced, Renames, Removes, KeepsOld, HasNone, HasNew, IsEmpty, IsReady, IsWritten, Places, Replaces}
use Rattle.qed_io.specs.declared.shelf.StoreError.{StoreError}

-- ---- one call after the other
pub leads_then :
    (P Q R : FolderState → FolderState → Type 0) → ((a b c : FolderState) → P a b → Q b c → R a c) → (x y z : Option FolderState) → LeadsTold P x y → LeadsTold Q y z
    → LeadsTold R x z
leads_then P Q R f None None None p q = q
leads_then P Q R f None None (Some c) p q = q
leads_then P Q R f None (Some b) z p q = absurd (cc)
leads_then P Q R f (Some a) None z p q = absurd p
leads_then P Q R f (Some a) (Some b) None p q = q
leads_then P Q R f (Some a) (Some b) (Some c) p q = f a b c p q

-- where the first state is known
pub leads_from :
    (S : FolderState → Type 0) (P R : FolderState → FolderState → Type 0) → ((a b : FolderState) → S a → P a b → R a b) → (x y : Option FolderState) → IfSome x S
    → LeadsTold P x y → LeadsTold R x y
leads_from S P R f None y s p = p
leads_from S P R f (Some a) None s p = p
leads_from S P R f (Some a) (Some b) s p = f a b s p

-- what is known then
pub leads_to :
    (S : FolderState → Type 0) (P : FolderState → FolderState → Type 0) (T : FolderState → Type 0) → ((a b : FolderState) → S a → P a b → T b)
    → (x y : Option FolderState) → IfSome x S → LeadsTold P x y → IfSome y T
leads_to S P T f None None s p = tt
leads_to S P T f None (Some b) s p = absurd (cc)
leads_to S P T f (Some a) None s p = absurd p
leads_to S P T f (Some a) (Some b) s p = f a b s p

-- ---- what the new file has
some_there : (m : Option (List ℕ)) (bytes : List ℕ) → m ≡ Some bytes → IsSomeAnd m (λ _. Unit {0})
some_there m bytes e = subst (λ n. IsSomeAnd n (λ _. Unit {0})) (sym e) tt

pub has_new : (x y : Option FolderState) → IfSome x IsEmpty → LeadsTold HasRights x y → HasNew y
has_new x y e l = leads_to IsEmpty HasRights (λ b. IsSomeAnd b.beside (λ _. Unit {0})) (λ a b s h. some_there b.beside [] (ap (λ o. o.beside) h ∙ s)) x y e l

-- the new file has its bytes
appended : (bytes : List ℕ) (b c : FolderState) → b.beside ≡ Some [] → Appends bytes b c → c ≡ record b { beside = Some bytes; is_synced = false }
appended bytes b c e h = subst (λ m. IfSome m (λ held. c ≡ record b { beside = Some (held ++ bytes); is_synced = false })) e h

-- rights, and a part of the bytes
pub part_kept : (x y z : Option FolderState) → LeadsTold HasRights x y → LeadsTold KeepsOld y z → LeadsTold KeepsOld x z
part_kept x y z p q = leads_then HasRights KeepsOld KeepsOld (λ a b c h k. record { old = k.old ∙ ap (λ o. o.old) h; stuck = k.stuck ∙ ap (λ o. o.stuck) h }) x y z p q

-- rights and all bytes
record IsFull (bytes : List ℕ) (a c : FolderState) : Type 0 where
  beside : c.beside ≡ Some bytes
  rights : c.has_rights ≡ true
  kept : KeepsOld a c

full : (bytes : List ℕ) (x y z : Option FolderState) → IfSome x IsEmpty → LeadsTold HasRights x y → LeadsTold (Appends bytes) y z → LeadsTold (IsFull bytes) x z
full bytes x y z e p q =
    leads_then (λ a b. IsEmpty a × HasRights a b) (Appends bytes) (IsFull bytes)
    (λ a b c h k.
    let is = appended bytes b c (ap (λ o. o.beside) h.1 ∙ h.0) k in
    record {
      beside = ap (λ o. o.beside) is;
      rights = ap (λ o. o.has_rights) is ∙ ap (λ o. o.has_rights) h.1;
      kept = record { old = ap (λ o. o.old) is ∙ ap (λ o. o.old) h.1; stuck = ap (λ o. o.stuck) is ∙ ap (λ o. o.stuck) h.1 };
    })
    x y z (leads_from IsEmpty HasRights (λ a b. IsEmpty a × HasRights a b) (λ a b s h. (s, h)) x y e p) q

pub full_kept :
    (bytes : List ℕ) (x y z u : Option FolderState) → IfSome x IsEmpty → LeadsTold HasRights x y → LeadsTold (Appends bytes) y z → LeadsTold KeepsOld z u → LeadsTold KeepsOld x u
full_kept bytes x y z u e p q r =
    leads_then (IsFull bytes) KeepsOld KeepsOld (λ a c d h k. record { old = k.old ∙ h.kept.old; stuck = k.stuck ∙ h.kept.stuck }) x z u (full bytes x y z e p q) r

-- all bytes of the new file are on the disk
pub is_written :
    (bytes : List ℕ) (x y z u : Option FolderState) → IfSome x IsEmpty → LeadsTold HasRights x y → LeadsTold (Appends bytes) y z → LeadsTold IsSynced z u → LeadsTold (IsWritten bytes) x u
is_written bytes x y z u e p q r =
    leads_then (IsFull bytes) IsSynced (IsWritten bytes)
    (λ a c d h k. record {
      beside = ap (λ o. o.beside) k ∙ h.beside;
      ready = record { is_synced = ap (λ o. o.is_synced) k; has_rights = ap (λ o. o.has_rights) k ∙ h.rights };
      kept = record { old = ap (λ o. o.old) k ∙ h.kept.old; stuck = ap (λ o. o.stuck) k ∙ h.kept.stuck };
    })
    x z u (full bytes x y z e p q) r

-- what holds whatever an error was
pub on_err : {T E : Type 0} (r : Result T E) (P : Type 0) → P → OnErr r P
on_err (Ok x) P p = tt
on_err (Err e) P p = p

-- ---- the replacement
pub made_empty : (x y : Option FolderState) → HasNone x → LeadsTold IsEmptyFile x y → IfSome y IsEmpty
made_empty x y n l = leads_to (λ o. o.beside ≡ None) IsEmptyFile IsEmpty (λ a b s h. ap (λ o. o.beside) h) x y n l

pub is_ready : (bytes : List ℕ) (x y : Option FolderState) → IfSome x IsEmpty → LeadsTold (IsWritten bytes) x y → IfSome y IsReady
is_ready bytes x y e l = leads_to IsEmpty (IsWritten bytes) IsReady (λ a b s h. h.ready) x y e l

-- where it is not done, the file is as it was, and the new one is removed
no_place : (new : Option (List ℕ)) (r : Result Bool StoreError) (a b c : FolderState) → r ≢ Ok true → KeepsOld a b → Removes b c → Replaces new r a c
no_place new r a b c ne h k = record {
  placed = λ e. absurd (ne e);
  kept = λ _. k.old ∙ h.old;
  removed = ⊎_elim (λ e. inl e) (λ e. inr (subst (λ n. Rose n c.stuck) h.stuck e)) k.removed;
}

pub renamed : (x y : Option FolderState) → LeadsTold Renames x y → LeadsTold (Places (Ok true)) x y
renamed x y p = leads_from (λ o. Unit {0}) Renames (Places (Ok true)) (λ a b s h. record { placed = λ _. h.old; kept = λ ne. absurd (ne (λ i. Ok true)); removed = inl h.beside }) x y (nothing x) p where
  -- nothing is asked
  nothing : (x : Option FolderState) → IfSome x (λ o. Unit {0})
  nothing None = tt
  nothing (Some o) = tt

pub unplaced : (r : Result Bool StoreError) (x y z : Option FolderState) → r ≢ Ok true → LeadsTold KeepsOld x y → LeadsTold Removes y z → LeadsTold (Places r) x z
unplaced r x y z ne p q = leads_then KeepsOld Removes (Places r) (λ a b c h k. no_place a.beside r a b c ne h k) x y z p q

pub unfilled : (new : Option (List ℕ)) (r : Result Bool StoreError) (x y z : Option FolderState) → r ≢ Ok true → LeadsTold KeepsOld x y → LeadsTold Removes y z → LeadsTold (Replaces new r) x z
unfilled new r x y z ne p q = leads_then KeepsOld Removes (Replaces new r) (λ a b c h k. no_place new r a b c ne h k) x y z p q

-- the new file has the bytes, and the name
pub written_placed : (bytes : List ℕ) (r : Result Bool StoreError) (x y z : Option FolderState) → LeadsTold (IsWritten bytes) x y → LeadsTold (Places r) y z → LeadsTold (Replaces (Some bytes) r) x z
written_placed bytes r x y z p q =
    leads_then (IsWritten bytes) (Places r) (Replaces (Some bytes) r)
    (λ a b c h k. record {
      placed = λ e. k.placed e ∙ h.beside;
      kept = λ ne. k.kept ne ∙ h.kept.old;
      removed = ⊎_elim (λ e. inl e) (λ e. inr (subst (λ n. Rose n c.stuck) h.kept.stuck e)) k.removed;
    })
    x y z p q

pub made_filled : (new : Option (List ℕ)) (r : Result Bool StoreError) (x y z : Option FolderState) → LeadsTold IsEmptyFile x y → LeadsTold (Replaces new r) y z → LeadsTold (Replaces new r) x z
made_filled new r x y z p q =
    leads_then IsEmptyFile (Replaces new r) (Replaces new r)
    (λ a b c h k. record {
      placed = λ e. k.placed e;
      kept = λ ne. k.kept ne ∙ ap (λ o. o.old) h;
      removed = ⊎_elim (λ e. inl e) (λ e. inr (subst (λ n. Rose n c.stuck) (ap (λ o. o.stuck) h) e)) k.removed;
    })
    x y z p q

pub none_made : (new : Option (List ℕ)) (r : Result Bool StoreError) (x y : Option FolderState) → r ≢ Ok true → HasNone x → LeadsTold Stays x y → LeadsTold (Replaces new r) x y
none_made new r x y ne n l =
    leads_from (λ o. o.beside ≡ None) Stays (Replaces new r)
    (λ a b s h. record { placed = λ e. absurd (ne e); kept = λ _. ap (λ o. o.old) h; removed = inl (ap (λ o. o.beside) h ∙ s) }) x y n l
