-- The rigs of the known figures, as lists of cables. Assumes nothing.
--   patch a b           a copper cable of 5 m between a and b
--   two_between         two cables between 4 and 5
--   triangle_and_tail   a triangle of 0, 1 and 2, and 3 cabled to 0
--   three_ways          0 and 1 each cabled to 2, 3 and 4
--   two_cliques         every pair of 0 to 3 and every pair of 4 to 7 cabled, and 0 to 4 and 1 to 5
--   first_clique        the devices of the first clique
--   both_cliques        the devices of both
--   bridge              a third cable between the cliques, from 2 to 6
--   example_sheet       the example of a house sheet: copper of 20 m from 10 to 11 to 12 to 13, fibre of 300 m from 13 to 10, and copper of 5 m from 10 to 20 and to 21
use Rattle.std.specs.Prelude.{ℕ, List, [], ◌∷◌}
use Rattle.network.specs.declared.cable.Cable.{Cable}
use Rattle.figures.specs.Grades.{copper, fibre}

abbrev pub patch : (a b : ℕ) → Cable
patch a b = record { a = a; b = b; run = copper 5 }

abbrev pub two_between : List Cable
two_between = patch 4 5 ∷ patch 4 5 ∷ []

abbrev pub triangle_and_tail : List Cable
triangle_and_tail = patch 0 1 ∷ patch 1 2 ∷ patch 2 0 ∷ patch 0 3 ∷ []

abbrev pub three_ways : List Cable
three_ways = patch 0 2 ∷ patch 0 3 ∷ patch 0 4 ∷ patch 1 2 ∷ patch 1 3 ∷ patch 1 4 ∷ []

abbrev pub two_cliques : List Cable
two_cliques =
    patch 0 1 ∷ patch 0 2 ∷ patch 0 3 ∷ patch 1 2 ∷ patch 1 3 ∷ patch 2 3
    ∷ patch 4 5 ∷ patch 4 6 ∷ patch 4 7 ∷ patch 5 6 ∷ patch 5 7 ∷ patch 6 7
    ∷ patch 0 4 ∷ patch 1 5 ∷ []

abbrev pub first_clique : List ℕ
first_clique = 0 ∷ 1 ∷ 2 ∷ 3 ∷ []

abbrev pub both_cliques : List ℕ
both_cliques = 0 ∷ 1 ∷ 2 ∷ 3 ∷ 4 ∷ 5 ∷ 6 ∷ 7 ∷ []

abbrev pub bridge : Cable
bridge = patch 2 6

abbrev pub example_sheet : List Cable
example_sheet =
    record { a = 10; b = 11; run = copper 20 }
    ∷ record { a = 11; b = 12; run = copper 20 }
    ∷ record { a = 12; b = 13; run = copper 20 }
    ∷ record { a = 13; b = 10; run = fibre 300 }
    ∷ patch 10 20 ∷ patch 10 21 ∷ []
