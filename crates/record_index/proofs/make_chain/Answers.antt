use mathlib.Core.Path.{subst}
use Rattle.std.proofs.Common.{rules}
use Rattle.record_index.specs.Index.{keys_of, heads_of, links_of, key_of}
use Rattle.record_index.specs.Post.{Threaded}
use Rattle.record_index.proofs.make_chain.Goals as goal

pub returns : goal.returns
returns c =
    let W = c.args.records.now.words.now in
    let l = c.args.records.now.layout in
    let f = key_of W l c.args.chain in
    let A = c.args.area.now in
    let B = c.chain_records.new.area in
    let k = keys_of c.args.chain in
    let h = heads_of c.args.chain in
    let t = links_of l c.args.chain in
    subst (λ n. Threaded A f n k h t 0 B) c.count.ensures
    (subst (λ n. Threaded A f c.count.result n h t 0 B) c.keys.ensures
    (subst (λ n. Threaded A f c.count.result c.keys.result n t 0 B) c.heads.ensures
    (subst (λ n. Threaded A f c.count.result c.keys.result c.heads.result n 0 B) c.links.ensures
    (c.chain_records.ensures f (λ k o p. search rules)))))
