-- The symbols of an output have the room that the kept symbols of its input have.
use Rattle.std.proofs.Common.{◌≡◌, ◌+◌, Bool, true, false, not, None, List, [], ◌∷◌, ◌++◌, length, map, refl, ap, ◌∙◌, arith, length-append}
use Rattle.std.specs.Prelude.{filter, ◌&&◌, if◌then◌else◌}
use Rattle.elf_types.specs.declared.file.Symbol.{Symbol}
use Rattle.qed_model.specs.declared.plan.EntryRow.{EntryRow}
use Rattle.tests.specs.Elf.Layout.{names_bytes, symbol_names}
use Rattle.qed_model.specs.Weave.OutputParts.{is_kept, is_local, may_name_code, out_symbol, symbol_group, out_symbols}
use Rattle.qed_model.specs.Weave.Placed.{entry_at}
use Rattle.qed_model.proofs.Lemmas.{name_at}
use Rattle.output_file.specs.Sizes.{symbols_room}

pub room-cons : (s : Symbol) (ss : List Symbol) → symbols_room (s ∷ ss) ≡ 25 + length s.name + symbols_room ss
room-cons s ss = let all = length-append (s.name ++ 0 ∷ []) (names_bytes (symbol_names ss)) in let one = length-append s.name (0 ∷ []) in omega (arith, all, one)

room-append : (xs ys : List Symbol) → symbols_room (xs ++ ys) ≡ symbols_room xs + symbols_room ys
room-append [] ys = omega arith
room-append (x ∷ xs) ys = let all = room-cons x (xs ++ ys) in let first = room-cons x xs in let rest = room-append xs ys in omega (arith, all, first, rest)

-- both groups of renamed symbols take the room of all, if names stay
module _ (f : Symbol → Symbol) (kept local : Symbol → Bool) (same : (s : Symbol) → (f s).name ≡ s.name) where
  abbrev locals : List Symbol → List Symbol
  locals ss = map f (filter (λ s. kept s && local s) ss)

  abbrev others : List Symbol → List Symbol
  others ss = map f (filter (λ s. kept s && not (local s)) ss)

  split_step : (s : Symbol) (ss : List Symbol) (k l : Bool) → kept s ≡ k → local s ≡ l → symbols_room (locals ss) + symbols_room (others ss) ≡ symbols_room (filter kept ss) → symbols_room (locals (s ∷ ss)) + symbols_room (others (s ∷ ss)) ≡ symbols_room (filter kept (s ∷ ss))
  split_step s ss false l is_k is_l h = rw is_k h
  split_step s ss true true is_k is_l h = rw is_k (rw is_l (let new = room-cons (f s) (locals ss) in let old = room-cons s (filter kept ss) in omega (arith, new, old, ap length (same s), h)))
  split_step s ss true false is_k is_l h = rw is_k (rw is_l (let new = room-cons (f s) (others ss) in let old = room-cons s (filter kept ss) in omega (arith, new, old, ap length (same s), h)))

  split_room : (ss : List Symbol) → symbols_room (locals ss) + symbols_room (others ss) ≡ symbols_room (filter kept ss)
  split_room [] = refl
  split_room (s ∷ ss) = split_step s ss (kept s) (local s) refl refl (split_room ss)

pub out_room : (rows : List EntryRow) (symbols : List Symbol) → symbols_room (out_symbols rows symbols) ≡ symbols_room (filter is_kept symbols)
out_room rows symbols =
    room-append (symbol_group true rows symbols) (symbol_group false rows symbols)
    ∙ split_room (out_symbol rows) is_kept is_local (λ s. name_at s (if may_name_code s then entry_at rows s.value else None)) symbols
