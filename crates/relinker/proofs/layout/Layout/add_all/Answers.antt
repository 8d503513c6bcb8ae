use Rattle.std.proofs.Common.{◌++◌, map, Some, ap, ◌∙◌}
use Rattle.std.specs.List.{list_all}
use Rattle.machine.specs.Table.{decode_of}
use Rattle.qed_model.specs.Weave.Placed.{instructions_from, leads_to}
use Rattle.relinker.specs.Link.{is_encoded}
use Rattle.relinker.proofs.Laying.{asks, laid_more}
use Rattle.relinker.proofs.layout.Layout.add_all.Goals as goal

pub put_items-self-requires-clause-low : goal.put_items-self-requires-clause-low
put_items-self-requires-clause-low c = (asks c.args.self.now c.args.items.now c.requires).low

pub put_items-self-requires-clause-encoded : goal.put_items-self-requires-clause-encoded
put_items-self-requires-clause-encoded c =
    ap (λ rows. list_all is_encoded (instructions_from c.args.self.now.far (leads_to rows c.args.self.now.last) c.args.self.now.at c.args.items.now)) c.deref.ensures.value
    ∙ (asks c.args.self.now c.args.items.now c.requires).encoded

pub put_items-self-requires-clause-room : goal.put_items-self-requires-clause-room
put_items-self-requires-clause-room c = (asks c.args.self.now c.args.items.now c.requires).room

pub returns : goal.returns
returns c form done rest l = (
  l.0,
  l.1,
  laid_more c.args.self.now c.args.items.now c.put_items-self.result c.put_items-self.new.words c.put_items-self.ensures.at
      (c.put_items-self.ensures.decode
      ∙ ap (λ rows. map decode_of c.args.self.now.words.items ++ map Some (instructions_from c.args.self.now.far (leads_to rows c.args.self.now.last) c.args.self.now.at c.args.items.now)) c.deref.ensures.value)
      c.put_items-self.ensures.small c.put_items-self.ensures.len c.put_items-self.ensures.capacity done rest l.2,
)
