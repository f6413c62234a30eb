use Rattle.find_path_levels.proofs.Gathers.{ready_start, ready_children, reads_children, ready_begun, reads_begun, begun, walking_start}
use Rattle.find_path_levels.proofs.Gathers.{walking_reads, walking_next, gathered}
use Rattle.find_path_levels.proofs.locations.find_local_import_locations.Goals as goal

pub push_children-children-requires : goal.push_children-children-requires
push_children-children-requires c = (
  c.requires.0,
  ready_start c.args.records.now.words.now c.args.area.now c.args.records.now.layout c.args.from.0 c.args.s c.args.sought.item
      c.requires.0 c.requires.2 c.requires.3 c.requires.4,
)

pub push_containers-n-requires : goal.push_containers-n-requires
push_containers-n-requires c = (
  reads_children c.args.records.now.words.now c.args.area.now c.args.records.now.layout c.args.from.0 c.args.s c.args.sought.item
      c.requires.0 c.requires.2 c.requires.3 c.requires.4 _ _ c.push_children-children.ensures c.push_children-children.auto.area,
  c.requires.1,
  ready_children c.args.records.now.words.now c.args.area.now c.args.records.now.layout c.args.from.0 c.args.s c.args.sought.item
      c.requires.0 c.requires.2 c.requires.3 c.requires.4 _ _ c.push_children-children.ensures c.push_children-children.auto.area,
)

pub loop-k-init : goal.loop-k-init
loop-k-init c =
    walking_start c.args.records.now.words.now _ c.args.records.now.layout _ _ _ _
    (ready_begun c.args.records.now.words.now c.args.area.now c.args.records.now.layout c.args.from.0 c.args.s c.args.sought.item
    c.requires.0 c.requires.2 c.requires.3 c.requires.4 _ _ c.push_children-children.ensures c.push_children-children.auto.area _ _
    c.push_containers-n.ensures c.push_containers-n.auto.area)

pub push_next-n-requires : goal.push_next-n-requires
push_next-n-requires c = (
  walking_reads c.args.records.now.words.now _ c.args.records.now.layout c.args.from.0 c.args.s c.args.sought.item _
      (reads_begun c.args.records.now.words.now c.args.area.now c.args.records.now.layout c.args.from.0 c.args.s c.args.sought.item
      c.requires.0 c.requires.2 c.requires.3 c.requires.4 _ _ c.push_children-children.ensures c.push_children-children.auto.area _ _
      c.push_containers-n.ensures c.push_containers-n.auto.area) c.loop-k.area c.loop-k.n c.loop-k.k c.loop-k.invariant,
  c.requires.1,
  c.loop-k.invariant.ready,
)

pub loop-k-preserved : goal.loop-k-preserved
loop-k-preserved c =
    walking_next c.args.records.now.words.now _ c.args.records.now.layout c.args.from.0 c.args.s c.args.sought.item _
    (reads_begun c.args.records.now.words.now c.args.area.now c.args.records.now.layout c.args.from.0 c.args.s c.args.sought.item
    c.requires.0 c.requires.2 c.requires.3 c.requires.4 _ _ c.push_children-children.ensures c.push_children-children.auto.area _ _
    c.push_containers-n.ensures c.push_containers-n.auto.area) c.loop-k.area c.loop-k.n c.loop-k.k c.loop-k.invariant _ _
    c.loop-k-test.true c.word.ensures c.push_next-n.ensures c.push_next-n.auto.area

pub returns : goal.returns
returns c =
    gathered c.args.records.now.words.now _ c.args.records.now.layout c.args.from.0 c.args.s c.args.sought.item _
    (reads_begun c.args.records.now.words.now c.args.area.now c.args.records.now.layout c.args.from.0 c.args.s c.args.sought.item
    c.requires.0 c.requires.2 c.requires.3 c.requires.4 _ _ c.push_children-children.ensures c.push_children-children.auto.area _ _
    c.push_containers-n.ensures c.push_containers-n.auto.area) c.loop-k.area c.loop-k.n c.loop-k.k c.loop-k.invariant
    c.args.area.now c.requires.0 c.requires.4 (begun c.args.records.now.words.now c.args.area.now c.args.records.now.layout
    c.args.from.0 c.args.s c.args.sought.item c.requires.0 c.requires.2 c.requires.3 c.requires.4 _ _ c.push_children-children.ensures
    c.push_children-children.auto.area _ _ c.push_containers-n.ensures c.push_containers-n.auto.area) c.loop-k-test.false
