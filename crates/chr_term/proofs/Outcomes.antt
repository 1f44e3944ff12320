-- What holds anyway, holds on an error.
use Rattle.std.proofs.Common.{Result, Ok, Err, OnErr}

pub on_err : {T E : Type 0} (r : Result T E) (Q : Type 0) → Q → OnErr r Q
on_err (Ok x) Q q = tt
on_err (Err e) Q q = q
