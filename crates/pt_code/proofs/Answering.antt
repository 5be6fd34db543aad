-- Facts on the value in an Ok.
use Rattle.std.specs.Prelude.{Result, Ok, Err, IfOk}

pub if_ok_by : {T E : Type 0} (P Q : T → Type 0) (r : Result T E) → ((x : T) → P x → Q x) → IfOk r P → IfOk r Q
if_ok_by P Q (Ok x) turn h = turn x h
if_ok_by P Q (Err e) turn h = tt
