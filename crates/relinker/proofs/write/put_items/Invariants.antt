use Rattle.std.proofs.Common.{◌≡◌, ◌+◌, ◌*◌, ◌≤◌, ◌++◌, drop, map, true, Some}
use Rattle.std.specs.Prelude.{vec_len, vec_capacity}
use Rattle.std.specs.List.{list_all}
use Rattle.machine.specs.Table.{decode_of}
use Rattle.qed_model.specs.Weave.Placed.{sum_of_sizes, instructions_from, leads_to}
use Rattle.relinker.specs.Link.{is_encoded, AreWords}
use Rattle.relinker.proofs.write.put_items.Given as goal

-- the words so far decode to the instructions before those of the rest
abbrev pub invariant-loop-item : goal.invariant-loop-item
invariant-loop-item l = record {
  place : l.at + sum_of_sizes l.jumps.far (drop l.item-index l.items) ≡ l.base + sum_of_sizes l.jumps.far l.items;
  rest : map decode_of l.words.items ++ map Some (instructions_from l.jumps.far (leads_to l.jumps.rows.now l.jumps.last) l.at (drop l.item-index l.items)) ≡ map decode_of l.fn.words.items ++ map Some (instructions_from l.jumps.far (leads_to l.jumps.rows.now l.jumps.last) l.base l.items);
  encoded : list_all is_encoded (instructions_from l.jumps.far (leads_to l.jumps.rows.now l.jumps.last) l.at (drop l.item-index l.items)) ≡ true;
  small : AreWords l.words.items;
  len : 4 * vec_len l.words + sum_of_sizes l.jumps.far (drop l.item-index l.items) ≡ 4 * vec_len l.fn.words + sum_of_sizes l.jumps.far l.items;
  capacity : vec_capacity l.fn.words ≤ vec_capacity l.words;
}
