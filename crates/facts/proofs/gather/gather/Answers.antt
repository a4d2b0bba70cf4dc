use Rattle.facts.proofs.gather.gather.Goals as goal

pub returns : goal.returns
returns c = let p = c.requires.right in
    record {
      ready = record {
        right = p.0;
        laid = p.1;
        placed = c.place.ensures;
        classed = c.classify.ensures _ c.sort.ensures c.enter.ensures;
      };
      sorted = c.sort.ensures;
      entered = c.enter.ensures;
    }
