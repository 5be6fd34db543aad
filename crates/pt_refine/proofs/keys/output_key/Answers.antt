use Rattle.std.proofs.Common.{rules, arith, ◌≡◌, ℕ, suc, ◌+◌, ◌*◌, ◌^◌, ◌<◌, ◌≤◌, Bool, true, false, cond, List, get_or, refl, sym, ap, ◌∙◌, subst}
use Rattle.std.specs.Int.{from_bool}
use Rattle.std.proofs.Math.Pow.{pow_mono}
use Rattle.std.proofs.Math.Numerals.{add-one}
use Rattle.pt_sets.specs.Automata.{output_of}
use Rattle.pt_refine.specs.Refining.{binary}
use Rattle.pt_refine.proofs.Digits.{binary-below}
use Rattle.pt_refine.proofs.keys.output_key.Goals as goal

-- a digit more still fits
key-fits : (key i count : ℕ) → key < 2 ^ i → i < count → count ≤ 64 → key * 2 + 1 < 2 ^ 64
key-fits key i count lt i_in few =
    let le : 2 ^ i ≤ 2 ^ 63 = pow_mono {i = i} {j = 63} (omega arith) in
    omega arith

byte-is : (b : Bool) → from_bool b ≡ cond b 1 0
byte-is true = refl
byte-is false = refl

byte-small : (b : Bool) → from_bool b ≤ 1
byte-small true = omega arith
byte-small false = omega arith

pub overflow_mul-key : goal.overflow_mul-key
overflow_mul-key c =
    let f = λ (j : ℕ). output_of c.args.table.now c.args.state (c.args.from + j) in
    let below = binary-below f c.loop-i.i in
    let is : c.loop-i.key ≡ binary f c.loop-i.i = c.loop-i.invariant in
    let fits = key-fits c.loop-i.key c.loop-i.i c.args.count (omega arith) c.loop-i-test.true c.requires.count in
    omega arith

pub overflow_add-key : goal.overflow_add-key
overflow_add-key c =
    let f = λ (j : ℕ). output_of c.args.table.now c.args.state (c.args.from + j) in
    let below = binary-below f c.loop-i.i in
    let is : c.loop-i.key ≡ binary f c.loop-i.i = c.loop-i.invariant in
    let fits = key-fits c.loop-i.key c.loop-i.i c.args.count (omega arith) c.loop-i-test.true c.requires.count in
    let digit : c.from.result ≤ 1 = rw c.from.ensures (byte-small _) in
    omega arith

pub loop-i-preserved : goal.loop-i-preserved
loop-i-preserved c =
    let a = c.args.table.now in
    let i = c.loop-i.i in
    let f = λ (j : ℕ). output_of a c.args.state (c.args.from + j) in
    let cell = c.args.state * c.letters.result + c.args.from + i in
    let at : cell ≡ c.args.state * 2 ^ a.tracks + (c.args.from + i) = let width = ap (λ (x : ℕ). c.args.state * x) c.letters.ensures.letters in omega arith in
    let out : get_or c.outputs-outputs.result.now cell false ≡ f i = ap (λ (xs : List Bool). get_or xs cell false) c.outputs-outputs.ensures.value ∙ ap (λ (x : ℕ). get_or a.outputs x false) at in
    let digit : c.from.result ≡ cond (f i) 1 0 = c.from.ensures ∙ byte-is (get_or c.outputs-outputs.result.now cell false) ∙ ap (λ (b : Bool). cond b 1 0) out in
    let is : c.loop-i.key ≡ binary f i = c.loop-i.invariant in
    let next : c.loop-i.key * 2 + c.from.result ≡ binary f i * 2 + cond (f i) 1 0 = omega arith in
    subst (λ (x : ℕ). c.loop-i.key * 2 + c.from.result ≡ binary f x) (sym (add-one i)) next
