-- The script of mode drill: groups of commands over random linear constraints.
use Rattle.std.specs.Prelude.{ℕ, zero, suc, ◌+◌, ◌*◌, ◌/◌, ◌%◌, List, [], ◌∷◌, ◌++◌, codes, decimal}
use Rattle.pt_drill.specs.declared.draws.Group.{Group}

-- the state after a draw, by the linear congruential generator of the C standard's example
abbrev pub next : ℕ → ℕ
next state = (state * 1103515245 + 12345) % 2147483648

-- the number below n that was drawn when this is the state after the draw
abbrev pub drawn : ℕ → ℕ → ℕ
drawn n state = state / 65536 % n

-- the numbers of a group, in the order in which they are drawn: it asks of a x + b y ≤ c, of x + d y to be divisible by m, and
-- of x - y = e
abbrev pub group_by : ℕ → ℕ → ℕ → ℕ → ℕ → ℕ → Group
group_by first second third fourth fifth sixth = record {
  a = 1 + drawn 5 first;
  b = 1 + drawn 5 second;
  c = drawn 32 third;
  m = 2 + drawn 6 fourth;
  d = drawn 7 fifth;
  e = drawn 32 sixth;
}

abbrev pub group_at : ℕ → Group
group_at state =
    group_by (next state) (next (next state)) (next (next (next state))) (next (next (next (next state))))
    (next (next (next (next (next state))))) (next (next (next (next (next (next state))))))

abbrev pub after_group : ℕ → ℕ
after_group state = next (next (next (next (next (next state)))))

-- the state before the group of this number, counted from 0
abbrev pub state_at : ℕ → ℕ → ℕ
state_at seed zero = seed
state_at seed (suc i) = after_group (state_at seed i)

abbrev pub line : List ℕ → List ℕ
line text = text ++ 10 ∷ []

-- the name of a predicate
abbrev pub name : ℕ → List ℕ
name i = codes "g" ++ decimal i

abbrev pub definition : ℕ → Group → List ℕ
definition i g =
    line (codes "(define-fun " ++ name i ++ codes " ((x Int) (y Int)) Bool (and (and (<= (+ (* " ++ decimal g.a ++ codes " x) (* " ++ decimal g.b ++ codes " y)) " ++ decimal g.c
    ++ codes ") ((_ divisible " ++ decimal g.m ++ codes ") (+ x (* " ++ decimal g.d ++ codes " y)))) (= (- x y) " ++ decimal g.e ++ codes ")))")

abbrev pub questions : ℕ → List ℕ
questions i =
    line (codes "(set-states " ++ name i ++ codes ")") ++ line (codes "(push 1)") ++ line (codes "(assert (and (" ++ name i ++ codes " p q) (>= p 0)))")
    ++ line (codes "(check-sat)") ++ line (codes "(pop 1)")

-- the first `size` groups
abbrev pub groups : ℕ → ℕ → List ℕ
groups seed zero = []
groups seed (suc i) = groups seed i ++ definition i (group_at (state_at seed i)) ++ questions i

abbrev pub drill_text : ℕ → ℕ → List ℕ
drill_text seed size = line (codes "(declare-const p Int)") ++ line (codes "(declare-const q Int)") ++ groups seed size
