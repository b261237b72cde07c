mod FormLaws
mod LineLaws
mod WordLaws
