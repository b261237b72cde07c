pub mod StartLaws
