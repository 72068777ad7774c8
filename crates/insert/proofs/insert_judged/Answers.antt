use Rattle.records.specs.Decode.{Lent, lent_of}
use Rattle.insert.proofs.Answers.{lawful_first, lawful_ascends, judged_found, judged_nests, judged_enters}
use Rattle.insert.proofs.insert_judged.Goals as goal

pub find_place-place-requires : goal.find_place-place-requires
find_place-place-requires c = let a = c.args in let x : Lent = lent_of a.tables in lawful_ascends a.lim x a.m c.requires.m_value

pub is_held-requires : goal.is_held-requires
is_held-requires c = let a = c.args in let x : Lent = lent_of a.tables in record { w_value = lawful_ascends a.lim x a.m c.requires.m_value; place_value = c.find_place-place.ensures }

pub returns-then-is_held : goal.returns-then-is_held
returns-then-is_held c = let a = c.args in let x : Lent = lent_of a.tables in let o : Lent = record { segments = a.out_segments.now; views = a.out_views.now; runs = a.out_runs.now; borrows = a.out_borrows.now; ids = a.out_ids.now; pool = a.out_pool.now } in judged_found a.lim x a.m c.requires.m_value a.prefix.now o c.requires.prefix_len_bound _ c.find_place-place.ensures _ c.is_held.ensures c.if-is_held.true

pub check_segment_prefix_antichain-requires : goal.check_segment_prefix_antichain-requires
check_segment_prefix_antichain-requires c = c.find_place-place.ensures

pub enter-requires : goal.enter-requires
enter-requires c = let a = c.args in let x : Lent = lent_of a.tables in record { m_value = lawful_first a.lim x a.m c.requires.m_value; place_value = c.find_place-place.ensures }

pub returns-in-Some : goal.returns-in-Some
returns-in-Some c = let a = c.args in let x : Lent = lent_of a.tables in let o : Lent = record { segments = a.out_segments.now; views = a.out_views.now; runs = a.out_runs.now; borrows = a.out_borrows.now; ids = a.out_ids.now; pool = a.out_pool.now } in judged_nests a.lim x a.m c.requires.m_value a.prefix.now o c.requires.prefix_len_bound _ c.find_place-place.ensures _ c.is_held.ensures c.if-is_held.false _ c.check_segment_prefix_antichain.ensures _ c.in-Some.is

pub returns-in-None : goal.returns-in-None
returns-in-None c = let a = c.args in let x : Lent = lent_of a.tables in let o : Lent = record { segments = a.out_segments.now; views = a.out_views.now; runs = a.out_runs.now; borrows = a.out_borrows.now; ids = a.out_ids.now; pool = a.out_pool.now } in judged_enters a.lim x a.m c.requires.m_value a.prefix.now o c.requires.prefix_len_bound _ c.find_place-place.ensures _ c.is_held.ensures c.if-is_held.false _ c.check_segment_prefix_antichain.ensures c.in-None.is _ c.enter.ensures
