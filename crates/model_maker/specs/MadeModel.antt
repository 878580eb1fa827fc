-- The text of a made model: lines of rates, components and a probe, and a system of users and servers.
use Rattle.std.specs.Prelude.{ℕ, ◌+◌, ◌/◌, ◌≤◌, List, [], ◌∷◌, ◌++◌, codes, replicate}
use Rattle.std.specs.List.{flat_map, join_by}

-- the sizes: how many users there are
abbrev pub IsMadeSize : ℕ → Type 0
IsMadeSize size = (1 ≤ size) × (size ≤ 100)

-- the lines before the system
abbrev pub made_lines : List (List ℕ)
made_lines =
    codes "t = 1;"
    ∷ codes "a = 4;"
    ∷ codes "s = 3;"
    ∷ codes "Idle = (think, t).Ready;"
    ∷ codes "Ready = (ask, a).Wait;"
    ∷ codes "Wait = (reply, infty).Idle;"
    ∷ codes "Free = (ask, infty).Busy;"
    ∷ codes "Busy = (reply, s).Free;"
    ∷ codes "probe Idle :: ask:start, reply:stop;"
    ∷ []

-- a name so many times, with a cooperation over no types between each two
abbrev pub joined_names : List ℕ → ℕ → List ℕ
joined_names name count = join_by (λ each. each) (codes " || ") (replicate count name)

-- as many users, and a server for every four of them, rounded up
abbrev pub made_system : ℕ → List ℕ
made_system size =
    joined_names (codes "Idle") size ++ codes " <ask,reply> (" ++ joined_names (codes "Free") ((size + 3) / 4)
    ++ codes ")"

-- the lines and the system, each with a line feed
abbrev pub made_text : ℕ → List ℕ
made_text size = flat_map (λ line. line ++ 10 ∷ []) made_lines ++ made_system size ++ 10 ∷ []
