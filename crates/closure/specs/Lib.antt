-- 01, 'Closure', as definitions: which families a row is offered, and the call with its refusals.
pub mod Closure
pub mod Call
