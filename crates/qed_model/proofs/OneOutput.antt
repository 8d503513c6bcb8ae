-- A test has one output.
use Rattle.std.proofs.Common.{◌≡◌, ℕ, suc, ◌^◌, ◌<◌, List, [], ◌∷◌, Some, refl, sym, ap, ◌∙◌, subst}
use Rattle.std.specs.Prelude.{slice_index}
use Rattle.elf_types.specs.declared.output.OutFile.{OutFile}
use Rattle.machine.specs.Table.{decode_of, Ins}
use Rattle.qed_model.specs.Weave.Placed.{Decode, placed}
use Rattle.tests.specs.Elf.Layout.{written}
use Rattle.tests.specs.Admission.Places.{image_of, code_place, ElfFile}
use Rattle.qed_model.specs.Weave.Blocks.{AreBlocks, Options}
use Rattle.qed_model.specs.Weave.Woven.{NewCode, new_code, IsCodeFor, file_with}
use Rattle.qed_model.specs.Weave.Output.{Woven, WovenFile}
use Rattle.machine.proofs.Lemmas.{encode_decode}
use Rattle.tests.proofs.Lemmas.{one_file}
use Rattle.qed_model.proofs.BlocksOnly.{blocks_only}

-- each instruction has one word
pub same_words : (xs ys : List ℕ) (is : List Ins) → ((k : ℕ) → slice_index xs k < 2 ^ 32) → ((k : ℕ) → slice_index ys k < 2 ^ 32) → Decode xs is → Decode ys is → xs ≡ ys
same_words [] [] is p q a b = refl
same_words [] (y ∷ ys) [] p q a b = absurd (cc)
same_words [] (y ∷ ys) (i ∷ is) p q a b = absurd (cc)
same_words (x ∷ xs) ys [] p q a b = absurd (cc)
same_words (x ∷ xs) [] (i ∷ is) p q a b = absurd (cc)
same_words (x ∷ xs) (y ∷ ys) (i ∷ is) p q a b =
    let dx : decode_of x ≡ Some i = cc in
    let dy : decode_of y ≡ Some i = cc in
    let ex = encode_decode x i (p 0) dx in
    let ey = encode_decode y i (q 0) dy in
    let one : x ≡ y = cc in
    let ra : Decode xs is = cc in
    let rb : Decode ys is = cc in
    ap (λ z. z ∷ xs) one ∙ ap (λ zs. y ∷ zs) (same_words xs ys is (λ k. p (suc k)) (λ k. q (suc k)) ra rb)

-- a test has one file, and its blocks have one code
pub one_code : (c : NewCode) (f : ElfFile) (o : Options) (xs ys : List ℕ) → IsCodeFor c f o xs → IsCodeFor c f o ys → xs ≡ ys
one_code c f o xs ys a b = same_words xs ys (placed c.far (code_place o.half (image_of f)) c.items) a.small b.small a.code b.code

pub one_woven_test : (input : List ℕ) (o : Options) (a b : OutFile) → WovenFile input o a → WovenFile input o b → a ≡ b
one_woven_test input o a b x y =
    let f = x.file in
    let same : y.file ≡ f = one_file input y.file f y.has.read x.has.read in
    let are : AreBlocks f o y.blocks = subst (λ g. AreBlocks g o y.blocks) same y.has.are in
    let blocks : y.blocks ≡ x.blocks = blocks_only f o y.blocks x.blocks are x.has.are in
    let there : IsCodeFor (new_code f o y.blocks) f o y.words = subst (λ g. IsCodeFor (new_code g o y.blocks) g o y.words) same y.has.code in
    let code : IsCodeFor (new_code f o x.blocks) f o y.words = subst (λ bs. IsCodeFor (new_code f o bs) f o y.words) blocks there in
    let words : y.words ≡ x.words = one_code (new_code f o x.blocks) f o y.words x.words code x.has.code in
    let moved : file_with (new_code y.file o y.blocks) y.file o y.words ≡ file_with (new_code f o y.blocks) f o y.words = ap (λ g. file_with (new_code g o y.blocks) g o y.words) same in
    let kept : file_with (new_code f o y.blocks) f o y.words ≡ file_with (new_code f o x.blocks) f o y.words = ap (λ bs. file_with (new_code f o bs) f o y.words) blocks in
    x.woven ∙ sym (y.woven ∙ moved ∙ kept ∙ ap (λ ws. file_with (new_code f o x.blocks) f o ws) words)

-- an input has one output
pub one_output : (input : List ℕ) (o : Options) (a b : List ℕ) → Woven input o a → Woven input o b → a ≡ b
one_output input o a b x y = x.bytes ∙ ap written (one_woven_test input o x.out y.out x.file y.file) ∙ sym y.bytes
