-- `Machine::rewound` meets its contract. Assumes nothing.
use Rattle.std.proofs.Common.{refl, arith}
use Rattle.text.proofs.Moves.{rewound-shown}
use Rattle.text.proofs.machine.Machine.rewound.Goals as goal

pub returns : goal.returns
returns c =
    let args = c.args in
    record { grows = omega arith; follows = (λ nodes. rewound-shown args.stack.now nodes args.self c.top-top.ensures.start refl) }
