-- What is returned, from what a call returned.
use Rattle.std.proofs.Common.{Result, Ok, Err, OnErr, IfErr, IsErrAnd}

-- what holds anyway holds on an error
pub on_err : {T E P : Type 0} (result : Result T E) → P → OnErr result P
on_err (Ok value) given = tt
on_err (Err error) given = given

-- what the exit of a `?` returns
pub if_err : {T E : Type 0} {P : E → Type 0} (result : Result T E) → IsErrAnd result P → (Q : E → Type 0) →
    ((e : E) → P e → Q e) → IfErr result Q
if_err (Ok value) is Q go = tt
if_err (Err error) is Q go = go error is
