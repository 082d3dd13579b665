use Rattle.std.proofs.Common.{◌≡◌, ◌+◌, ℕ, [], ap, arith, length, map, rules}
use Rattle.std.proofs.lemmas.List.{length-map, length-replicate}
use Rattle.plist_buffer.proofs.TreeStarts.{occurs_in}
use Rattle.plist_share.specs.inner.Nodes.{Node, node_of}
use Rattle.plist_share.proofs.ClassTrees.{separates}
use Rattle.plist_share.proofs.classes.tree_classes.Goals as goal

pub back-init : goal.back-init
back-init c =
    let empty : c.new-collections.result.keys ≡ [] = search rules in
    record {
      have = record {
        each = λ p le t s. absurd (omega (arith, le, occurs_in s, c.len-index.ensures));
        used = λ i lt. absurd (omega (arith, lt, ap (λ keys. length (map node_of keys)) empty));
      };
      long = omega (
        arith,
        ap length c.in_ok-zeros.ensures.zeros,
        length-replicate {A = ℕ} c.count_collections.result 0,
        c.count_collections.ensures.count,
      );
      bound = search rules;
      within = omega (arith, c.len-index.ensures);
      apart = rw empty (λ i j k p q. cc);
    }

pub returns : goal.returns
returns c =
    let i = c.back.invariant in
    let keys = c.back.collections.keys in
    let sum : c.in_ok-found.field-0 ≡ c.back.found.bound + length keys = search rules in
    let bound : c.in_ok-found.field-0 ≡ c.back.found.bound + length (map node_of keys) =
    omega (arith, sum, length-map {B = Node} keys node_of) in
    rw bound (separates i.bound i.have (omega (arith, c.back-test.false)) i.long i.apart c.requires)
