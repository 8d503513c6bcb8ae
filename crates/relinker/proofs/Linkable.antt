-- Why the items of blocks can be linked: given words, each instruction has one, and the marks are those of the blocks.
use Rattle.std.proofs.Common.{◌≡◌, ℕ, ◌^◌, ◌<◌, suc, true, List, [], ◌∷◌, length, map, Some, refl, sym, ap, ◌∙◌, arith, false}
use Rattle.std.specs.Prelude.{◌&&◌, get_or, slice_index, is_some, AllPairs}
use Rattle.std.specs.List.{list_all}
use Rattle.std.proofs.Math.ListN.{get_or-map, length-map}
use Rattle.qed_model.specs.declared.plan.EntryRow.{EntryRow}
use Rattle.machine.specs.Table.{decode_of, Ins}
use Rattle.qed_model.specs.Weave.Placed.{Decode, EntriesAscend}
use Rattle.qed_model.specs.Weave.Sequences.{Block, Falls}
use Rattle.machine.proofs.Lemmas.{encode_decode}
use Rattle.relinker.specs.Link.{is_encoded}

-- the instructions of words have words
pub decoded : (words : List ℕ) (is : List Ins) → ((k : ℕ) → slice_index words k < 2 ^ 32) → Decode words is → list_all is_encoded is ≡ true
decoded [] [] small e = refl
decoded [] (i ∷ is) small e = absurd (cc)
decoded (w ∷ ws) [] small e = absurd (cc)
decoded (w ∷ ws) (i ∷ is) small e =
    let here : decode_of w ≡ Some i = cc in
    let later : map decode_of ws ≡ map Some is = cc in
    ap (λ o. is_some o && list_all is_encoded is) (encode_decode w i (small 0) here) ∙ decoded ws is (λ k. small (suc k)) later

-- the first addresses of blocks ascend, and the marks stand at them
pub ascending : (rows : List EntryRow) (blocks : List Block) → map (λ (r : EntryRow). r.input) rows ≡ map (λ b. b.start) blocks → AllPairs (λ (b c : Block). b.start < c.start) blocks → EntriesAscend rows
ascending rows blocks same up i j d l m =
    let e : Block = record { start = d.input; body = []; end = Falls; reached = false } in
    let many : length rows ≡ length blocks = sym (length-map rows (λ (r : EntryRow). r.input)) ∙ ap length same ∙ length-map blocks (λ (b : Block). b.start) in
    let at : (k : ℕ) → (get_or rows k d).input ≡ (get_or blocks k e).start =
    λ k. sym (get_or-map (λ (r : EntryRow). r.input) rows k d) ∙ ap (λ ns. get_or ns k d.input) same ∙ get_or-map (λ (b : Block). b.start) blocks k e in
    let less = up i j e l (omega (arith, m, many)) in
    omega (arith, at i, at j, less)
