use Rattle.pt_cells.specs.Places.{seen_of, Match}
use Rattle.pt_cells.proofs.Levels.{name_from-match}
use Rattle.pt_cells.proofs.segments.SegmentFields.compare.Goals as goal

pub returns-clause-agree : goal.returns-clause-agree
returns-clause-agree c =
    let same : Match (seen_of c.args.one.now) (seen_of c.args.other.now) = ((
      c.compare.ensures.same_cells,
      (
        c.compare-2.ensures.same_cells,
        (
          c.compare-3.ensures.same_cells,
          (
            c.compare-4.ensures.same_cells,
            (
              c.compare-5.ensures.same_cells,
              (
                c.compare-6.ensures.same_cells,
                (
                  c.compare-7.ensures.same_cells,
                  (
                    c.compare-8.ensures.same_cells,
                    (
                      c.compare-9.ensures.same_cells,
                      (
                        c.compare-10.ensures.same_cells,
                        (
                          c.compare-11.ensures.same_cells,
                          (
                            c.compare-12.ensures.same_cells,
                            (
                              c.compare-13.ensures.same_cells,
                              (
                                c.compare-14.ensures.same_cells,
                                (
                                  c.compare-15.ensures.same_cells,
                                  (c.compare-16.ensures.same_cells, (c.compare-17.ensures.same_cells, (c.compare-18.ensures.same_cells, tt))),
                                ),
                              ),
                            ),
                          ),
                        ),
                      ),
                    ),
                  ),
                ),
              ),
            ),
          ),
        ),
      ),
    )) in
    name_from-match (seen_of c.args.one.now) (seen_of c.args.other.now) same 1024
