use Rattle.std.proofs.Common.{◌∙◌, ap}
use Rattle.name_hash.specs.Fnv.{hash_of}
use Rattle.hit_sets.specs.Past.{names_of}
use Rattle.hit_sets.proofs.Filters.{written_bits}
use Rattle.hit_sets.proofs.bloom.BloomHits.insert.Goals as goal

pub invariant_of-self : goal.invariant_of-self
invariant_of-self c = written_bits c.self.inside.fpp c.fnv1a.result c.self.inside.words.len
    c.self.inside.words.items c.set_places.new.words c.as_mut_slice.result.now
    (names_of c.self.inside.past) (names_of c.push.new.self) c.args.name.now
    c.self.invariant c.as_mut_slice.ensures.value
    (c.fnv1a.ensures ∙ ap hash_of c.bytes.ensures.value)
    c.set_places.auto.words c.self.inside.words.ok.0 c.push.ensures c.set_places.ensures
